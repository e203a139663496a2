use Rattle.std.proofs.Common.{◌≡◌, arith, length, refl, ap}
use Rattle.usb_kernel.specs.Tickets.{tickets}
use Rattle.usb_kernel.specs.TableState.{TableState}
use Rattle.usb_kernel.specs.Rows.{Agrees}
use Rattle.usb_kernel.specs.Listed.{rows_of}
use Rattle.usb_kernel.proofs.Fresh.{Agrees-refuse, length-rows}
use Rattle.usb_kernel.proofs.RecordLemmas.{seen_rows, rows-length}
use Rattle.usb_kernel.proofs.table.TicketTable.add_refused.Goals as goal

pub add_refused-requires-clause-room : goal.add_refused-requires-clause-room
add_refused-requires-clause-room c =
    let room = ap (λ (t : TableState). t.room) c.self.view_is in
    omega (arith, room, c.requires.room, c.self.inside.tickets.records.ok)

pub add_refused-requires-clause-finished : goal.add_refused-requires-clause-finished
add_refused-requires-clause-finished c = rw c.refused-row.ensures.row refl

pub add_refused-requires-clause-reaped : goal.add_refused-requires-clause-reaped
add_refused-requires-clause-reaped c = rw c.refused-row.ensures.row refl

pub returns-clause-long : goal.returns-clause-long
returns-clause-long c =
    let rows = ap (λ (t : TableState). length t.rows) c.self.view_is in
    rw c.refused-row.ensures.done (omega (arith, rows, c.len.ensures.len, rows-length c.self.inside.tickets.records.items))

pub returns-clause-number : goal.returns-clause-number
returns-clause-number c =
    let records = c.self.inside.tickets.records.items in
    λ past agreed.
    let agrees : Agrees past (rows_of records) = rw (seen_rows c.self.view_is) agreed in
    let number : c.len.result ≡ length (tickets past) = omega (arith, length-rows past (rows_of records) agrees, c.len.ensures.len, rows-length records) in
    rw (← number) c.refused-row.ensures.done

pub returns-clause-agrees : goal.returns-clause-agrees
returns-clause-agrees c =
    let records = c.self.inside.tickets.records.items in
    λ past agreed.
    let agrees : Agrees past (rows_of records) = rw (seen_rows c.self.view_is) agreed in
    rw c.add_refused.ensures.rows (Agrees-refuse past (rows_of records) c.args.s (length (tickets past)) c.args.errno _ agrees c.refused-row.ensures.row)
