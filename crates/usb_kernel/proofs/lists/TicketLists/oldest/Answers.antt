use Rattle.std.proofs.Common.{ap, ◌∙◌}
use Rattle.usb_kernel.specs.declared.record.Ends.{Ends}
use Rattle.usb_kernel.specs.Rows.{is_open_row}
use Rattle.usb_kernel.proofs.ListedLemmas.{first-position}
use Rattle.usb_kernel.proofs.lists.TicketLists.oldest.Goals as goal

pub returns : goal.returns
returns c = record {
  oldest = λ records listed.
      c.ticket.ensures.ticket ∙ ap (λ (x : Ends). x.first) c.ends.ensures.ends ∙ first-position (is_open_row c.args.device c.args.endpoint) records _ (listed.queues c.args.device c.args.endpoint).first;
}
