use Rattle.std.proofs.Common.{◌≡◌, ◌++◌, length, map}
use Rattle.std.specs.Vec.Iter.{into_iter_items, into_iter_len}
use Rattle.usb_kernel_devices.specs.Devices.{fresh_device}
use Rattle.usb_kernel_devices.proofs.devices.fresh_devices.Given as goal

abbrev pub invariant-loop-number : goal.invariant-loop-number
invariant-loop-number l = record {
  made : l.made.items ++ map fresh_device (into_iter_items l.number-iterator) ≡ map fresh_device l.fn.devices.items;
  left : into_iter_len l.number-iterator ≡ length (into_iter_items l.number-iterator);
}
