use Rattle.std.proofs.Common.{◌≡◌}
use Rattle.usb_desc.specs.Interfaces as spec
use Rattle.usb_desc.proofs.interfaces.interfaces_among.Given as goal

abbrev pub invariant-loop-setting : goal.invariant-loop-setting
invariant-loop-setting l = l.groups.items ≡ spec.interfaces_among l.yielded
