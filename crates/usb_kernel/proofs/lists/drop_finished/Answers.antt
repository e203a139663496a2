use Rattle.std.proofs.Common.{◌∙◌}
use Rattle.usb_kernel.proofs.Unreaped.{reaped-found, reaped-removed}
use Rattle.usb_kernel.proofs.lists.drop_finished.Goals as goal

pub returns-in-Ok-clause-numbers : goal.returns-in-Ok-clause-numbers
returns-in-Ok-clause-numbers c =
    let facts = c.in-Ok.ensures in
    λ rows next listed r.
    c.remove.ensures.items ∙ reaped-removed rows c.args.finished.now.items c.args.ticket next listed r c.in-Ok.at (rw c.deref.ensures.value at facts.bound) (rw c.deref.ensures.value at facts.position)

-- it was finished
pub returns-in_default-clause-numbers : goal.returns-in_default-clause-numbers
returns-in_default-clause-numbers c =
    let facts = c.in_default.ensures in
    λ rows next listed r.
    absurd (reaped-found rows c.args.finished.now.items c.args.ticket next listed r c.in_default.field-0 (rw c.deref.ensures.value at facts.bound) (rw c.deref.ensures.value at facts.position))
