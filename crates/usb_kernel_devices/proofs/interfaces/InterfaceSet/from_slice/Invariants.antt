use Rattle.std.proofs.Common.{◌≡◌, take}
use Rattle.usb_kernel_devices.specs.Interfaces.{set_of}
use Rattle.usb_kernel_devices.proofs.interfaces.InterfaceSet.from_slice.Given as goal

abbrev pub invariant-loop-number : goal.invariant-loop-number
invariant-loop-number l = l.interfaces ≡ set_of (take l.number-index l.numbers)
