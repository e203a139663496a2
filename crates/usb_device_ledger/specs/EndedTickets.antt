-- The ends of tickets.
use Rattle.std.specs.Prelude.{ℕ, List, Option, Some, None, slice_get, option_and_then}
use Rattle.usb_device_ledger.specs.declared.ends.TicketEnd.{TicketEnd}
use Rattle.usb_device_ledger.specs.Entries.{HostTicket, HeldBy, Abandoned, Ended}

-- the end of a ticket that has one
abbrev pub ended_at : HostTicket → Option TicketEnd
ended_at (HeldBy hold) = None
ended_at (Abandoned key) = None
ended_at (Ended end) = Some end

-- the end of ticket t, if it has one
abbrev pub end_at : List HostTicket → ℕ → Option TicketEnd
end_at tickets t = option_and_then ended_at (slice_get tickets t)
