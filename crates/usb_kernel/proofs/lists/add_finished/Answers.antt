use Rattle.std.proofs.Common.{◌∙◌}
use Rattle.std.specs.Prelude.{IsOk}
use Rattle.usb_kernel.proofs.Unreaped.{not_finished, number-inserted}
use Rattle.usb_kernel.proofs.lists.add_finished.Goals as goal

pub returns-in-Err-clause-numbers : goal.returns-in-Err-clause-numbers
returns-in-Err-clause-numbers c =
    let facts = c.in-Err.ensures in
    let done : IsOk c.insert.result = c.insert.ensures.succeeds c.requires.room in
    λ rows next listed f.
    rw done at c.insert.ensures.items ∙ number-inserted rows c.args.finished.now.items c.args.ticket next listed f c.in-Err.at (rw c.deref.ensures.value at facts.bound) (rw c.deref.ensures.value at facts.position)

-- it was not finished
pub returns-in_default-clause-numbers : goal.returns-in_default-clause-numbers
returns-in_default-clause-numbers c =
    let facts = c.in_default.ensures in
    λ rows next listed f.
    absurd (not_finished rows c.args.finished.now.items c.args.ticket next listed f c.in_default.field-0 (rw c.deref.ensures.value at facts.bound) (rw c.deref.ensures.value at facts.position))
