use Rattle.std.proofs.Common.{◌≡◌, ℕ, ◌<◌, map, is_some, true}
use Rattle.usb_kernel_devices.specs.Devices.{fresh_device, plugged_device}
use Rattle.usb_trace.proofs.replay.all_devices.Given as goal

abbrev pub invariant-loop-number : goal.invariant-loop-number
invariant-loop-number l = (d : ℕ) → d < l.number → is_some (plugged_device (map fresh_device l.devices.items) d) ≡ true
