use Rattle.std.proofs.Common.{◌≡◌, ◌++◌, drop}
use Rattle.usb_session.specs.Output.{devices_of}
use Rattle.usb_session.proofs.session.devices_of.Given as goal

abbrev pub invariant-loop-place : goal.invariant-loop-place
invariant-loop-place l = l.devices.items ++ devices_of (drop l.place l.items) ≡ devices_of l.items
