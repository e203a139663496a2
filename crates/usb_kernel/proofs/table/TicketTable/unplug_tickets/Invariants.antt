use Rattle.std.proofs.Common.{length}
use Rattle.usb_kernel.specs.Listed.{rows_of}
use Rattle.usb_kernel.proofs.WalkLemmas.{HasUnplugged, way_left}
use Rattle.usb_kernel.proofs.table.TicketTable.unplug_tickets.Given as goal

abbrev pub invariant-walk : goal.invariant-walk
invariant-walk g l =
    HasUnplugged l.device (rows_of l.initial.self-inside.tickets.records.items) l.self-inside.tickets.records.items l.self-inside.lists l.next l.initial.steps l.steps l.freed

abbrev pub decreases-walk : goal.decreases-walk
decreases-walk g l = way_left (length (rows_of l.initial.self-inside.tickets.records.items)) l.next
