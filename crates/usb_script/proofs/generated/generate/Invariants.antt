use Rattle.std.proofs.Common.{◌≡◌, ◌++◌}
use Rattle.usb_script.specs.Generated.{opening, round_trips}
use Rattle.usb_script.proofs.generated.generate.Given as goal

abbrev pub invariant-loop-number : goal.invariant-loop-number
invariant-loop-number l = l.script.items ≡ opening ++ round_trips l.number
