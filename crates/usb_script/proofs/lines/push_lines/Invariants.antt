use Rattle.std.proofs.Common.{◌≡◌, ◌++◌}
use Rattle.usb_script.specs.Generated.{line, times}
use Rattle.usb_script.proofs.lines.push_lines.Given as goal

abbrev pub invariant-loop-made : goal.invariant-loop-made
invariant-loop-made l = l.script.items ≡ l.initial.script.items ++ times l._made (line l.words)
