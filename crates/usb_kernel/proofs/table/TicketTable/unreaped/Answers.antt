use Rattle.std.proofs.Common.{◌∙◌}
use Rattle.usb_kernel.specs.Rows.{Agrees}
use Rattle.usb_kernel.specs.Listed.{rows_of}
use Rattle.usb_kernel.proofs.Lowest.{unreaped_count}
use Rattle.usb_kernel.proofs.RecordLemmas.{seen_rows}
use Rattle.usb_kernel.proofs.table.TicketTable.unreaped.Goals as goal

pub returns : goal.returns
returns c = record {
  unreaped = λ past agreed.
      let agrees : Agrees past (rows_of c.self.inside.tickets.records.items) = rw (seen_rows c.self.view_is) agreed in
      c.self.invariant.count ∙ unreaped_count past (rows_of c.self.inside.tickets.records.items) agrees;
}
