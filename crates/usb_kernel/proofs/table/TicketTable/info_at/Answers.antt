use Rattle.std.proofs.Common.{length, arith, ap}
use Rattle.usb_kernel.specs.TableState.{TableState}
use Rattle.usb_kernel.specs.Rows.{Agrees}
use Rattle.usb_kernel.specs.Listed.{rows_of}
use Rattle.usb_kernel.proofs.StepLemmas.{row_at, info-row}
use Rattle.usb_kernel.proofs.RecordLemmas.{seen_rows, rows-length, row-read, row-inside}
use Rattle.usb_kernel.proofs.table.TicketTable.info_at.Goals as goal

pub at-reached-requires : goal.at-reached-requires
at-reached-requires g c =
    let records = c.self.inside.tickets.records.items in
    record { within = omega (arith, c.requires.below, rows-length records, ap (λ (t : TableState). length t.rows) c.self.view_is) }

pub returns : goal.returns
returns g c =
    let records = c.self.inside.tickets.records.items in
    let reached = c.at-reached.result.now in
    let at = c.at-reached.ensures.record in
    record {
      info = λ past agreed.
          let agrees : Agrees past (rows_of records) = rw (seen_rows c.self.view_is) agreed in
          rw c.info.ensures.info (info-row past c.args.ticket reached.row (row_at past (rows_of records) c.args.ticket reached.row agrees (row-inside records c.args.ticket reached at) (row-read records c.args.ticket reached at)));
    }
