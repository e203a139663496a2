use Rattle.std.proofs.Common.{[], arith, rules}
use Rattle.usb_script_words.proofs.StepsOfLine.{first_part_at}
use Rattle.usb_script_words.proofs.line.first_part.Goals as goal

pub returns-then-reads-clause-parts : goal.returns-then-reads-clause-parts
returns-then-reads-clause-parts c =
    rw (c.split_at.ensures.front, c.split_at.ensures.back)
    (first_part_at c.args.words.now c.loop-i.i (record { ref_ptr = (0, 0); now = [] }) (omega arith) c.loop-i.invariant (λ _. search rules))

pub returns-clause-parts : goal.returns-clause-parts
returns-clause-parts c =
    rw (c.split_at-2.ensures.front, c.split_at-2.ensures.back)
    (first_part_at c.args.words.now _ (record { ref_ptr = (0, 0); now = [] }) (omega arith) (λ k h. c.loop-i.invariant k (omega arith)) (λ h. absurd (omega arith)))
