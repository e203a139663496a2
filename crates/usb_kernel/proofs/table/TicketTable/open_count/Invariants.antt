use Rattle.std.proofs.Common.{length}
use Rattle.usb_kernel.proofs.CountLemmas.{HasCounted}
use Rattle.usb_kernel.proofs.WalkLemmas.{way_left}
use Rattle.usb_kernel.proofs.table.TicketTable.open_count.Given as goal

abbrev pub invariant-walk : goal.invariant-walk
invariant-walk g l =
    HasCounted l.device l.endpoint l.initial.self-inside.tickets.records.items l.next l.initial.steps l.steps l.count

abbrev pub decreases-walk : goal.decreases-walk
decreases-walk g l = way_left (length l.initial.self-inside.tickets.records.items) l.next
