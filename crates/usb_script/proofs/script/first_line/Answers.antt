use Rattle.std.proofs.Common.{◌+◌, arith, add-one}
use Rattle.std.proofs.lemmas.Grind.{common_steps}
use Rattle.std.proofs.lemmas.List.{take_rest}
use Rattle.usb_script.proofs.FirstLine.{lines_of_at, lines_of_all}
use Rattle.usb_script.proofs.script.first_line.Goals as goal

pub returns-then-b-eq10-clause-lines : goal.returns-then-b-eq10-clause-lines
returns-then-b-eq10-clause-lines c =
    let bytes = c.args.bytes.now in
    rw (take_rest bytes (c.loop-i.i + 1), add-one)
    (lines_of_at bytes c.loop-i.i c.loop-i-test.true c.if-b-eq10.true c.loop-i.invariant)

pub returns-clause-lines : goal.returns-clause-lines
returns-clause-lines c =
    let e = lines_of_all c.args.bytes.now c.requires.some (λ k h. c.loop-i.invariant k (omega arith)) in
    grind (arith, common_steps, e)
