use Rattle.std.proofs.Common.{ap, ◌∙◌}
use Rattle.std.specs.Prelude.{is_some, position}
use Rattle.usb_kernel.specs.Rows.{is_open_row}
use Rattle.usb_kernel.proofs.RecordLemmas.{seen_rows}
use Rattle.usb_kernel.proofs.table.TicketTable.has_open.Goals as goal

pub returns : goal.returns
returns c = record {
  open_one = c.is_some.ensures ∙ ap is_some (c.oldest.ensures.oldest c.self.inside.tickets.records.items c.self.invariant ∙ ap (position (is_open_row c.args.device c.args.endpoint)) (seen_rows c.self.view_is));
}
