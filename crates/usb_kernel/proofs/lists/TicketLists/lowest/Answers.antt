use Rattle.std.proofs.Common.{ap, ◌∙◌, slice_get}
use Rattle.usb_kernel.specs.Listed.{rows_of}
use Rattle.usb_kernel.proofs.Unreaped.{lowest-listed}
use Rattle.usb_kernel.proofs.lists.TicketLists.lowest.Goals as goal

pub returns : goal.returns
returns c = record {
  lowest = λ records listed. c.copied.ensures ∙ (c.first.ensures.value ∙ (ap (λ xs. slice_get xs 0) (c.deref.ensures.value ∙ listed.finished) ∙ lowest-listed (rows_of records)));
}
