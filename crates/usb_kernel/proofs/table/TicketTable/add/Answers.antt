use Rattle.std.proofs.Common.{◌≡◌, true, arith, refl, ap, sym, subst}
use Rattle.std.specs.Prelude.{length}
use Rattle.usb_kernel.specs.Tickets.{tickets}
use Rattle.usb_kernel.specs.TableState.{TableState, has_entry}
use Rattle.usb_kernel.specs.Rows.{Agrees}
use Rattle.usb_kernel.specs.Queues.{has_queue}
use Rattle.usb_kernel.specs.Listed.{rows_of}
use Rattle.usb_kernel.proofs.Fresh.{Agrees-submit, length-rows}
use Rattle.usb_kernel.proofs.RecordLemmas.{seen_rows, rows-length}
use Rattle.usb_kernel.proofs.table.TicketTable.add.Goals as goal

pub add-requires-clause-room : goal.add-requires-clause-room
add-requires-clause-room g c =
    let room = ap (λ (t : TableState). t.room) c.self.view_is in
    omega (arith, room, c.requires.room, c.self.inside.tickets.records.ok)

pub add-requires-clause-places : goal.add-requires-clause-places
add-requires-clause-places g c =
    let room = ap (λ (t : TableState). t.room) c.self.view_is in
    omega (arith, room, c.requires.room)

pub add-requires-clause-opened : goal.add-requires-clause-opened
add-requires-clause-opened g c =
    let opened : has_queue c.self.inside.lists.queues c.args.s.device c.args.s.endpoint ≡ true = subst (λ t. has_entry t c.args.s.device c.args.s.endpoint ≡ true) (sym c.self.view_is) c.requires.opened in
    rw c.queued.ensures.row opened

pub add-requires-clause-unfinished : goal.add-requires-clause-unfinished
add-requires-clause-unfinished g c = rw c.queued.ensures.row refl

pub add-requires-clause-waiting : goal.add-requires-clause-waiting
add-requires-clause-waiting g c = rw c.queued.ensures.row refl

pub returns-clause-long : goal.returns-clause-long
returns-clause-long g c =
    let rows = ap (λ (t : TableState). length t.rows) c.self.view_is in
    omega (arith, rows, c.len-ticket.ensures.len, rows-length c.self.inside.tickets.records.items)

pub returns-clause-number : goal.returns-clause-number
returns-clause-number g c =
    let records = c.self.inside.tickets.records.items in
    λ past agreed.
    let agrees : Agrees past (rows_of records) = rw (seen_rows c.self.view_is) agreed in
    omega (arith, length-rows past (rows_of records) agrees, c.len-ticket.ensures.len, rows-length records)

pub returns-clause-agrees : goal.returns-clause-agrees
returns-clause-agrees g c =
    let records = c.self.inside.tickets.records.items in
    λ past agreed.
    let agrees : Agrees past (rows_of records) = rw (seen_rows c.self.view_is) agreed in
    rw c.add.ensures.rows (Agrees-submit past (rows_of records) c.args.s (length (tickets past)) c.queued.result agrees c.queued.ensures.row c.queued.ensures.roomy)
