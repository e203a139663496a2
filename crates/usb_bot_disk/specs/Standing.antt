-- The packets that stand at an OUT endpoint, as a number that no event but a submission raises.
use Rattle.std.specs.Prelude.{ℕ, ◌+◌, ◌-◌, ◌*◌, List, length, nat_lt, if◌then◌else◌}
use Rattle.std.specs.List.{sum_by, enumerate_from}
use Rattle.usb_kernel.specs.declared.event.Event.{Event}
use Rattle.usb_kernel.specs.declared.event.Body.{Body}
use Rattle.usb_kernel.specs.declared.event.Body.TheVariants.{Wanted, Sent}
use Rattle.usb_kernel.specs.Tickets.{Ticket, tickets}
use Rattle.usb_kernel.specs.Fates.{Fate}
use Rattle.usb_kernel.specs.Journal.{fate, is_open}

-- how many packets a ticket has left at most, after so many acknowledgements: one for each byte
-- that is not acknowledged, and one for an empty packet
abbrev pub packets_left : Body → ℕ → ℕ → ℕ
packets_left (Wanted n) maximum acks = 1
packets_left (Sent bytes) maximum acks = length bytes - maximum * acks + 1

-- those of a ticket, in a pair behind its number, while it is open on an endpoint
abbrev pub ticket_packets : (ℕ → Fate) → ℕ → ℕ → (ℕ × Ticket) → ℕ
ticket_packets fates d e p =
    if is_open fates d e p then packets_left p.1.body p.1.maximum (fates p.0).acks else 0

-- those of all tickets
abbrev pub packets_open : List Event → ℕ → ℕ → ℕ
packets_open past d e = sum_by (ticket_packets (fate past) d e) (enumerate_from 0 (tickets past))

-- and so at an OUT endpoint. An IN endpoint has none
abbrev pub packets_standing : List Event → ℕ → ℕ → ℕ
packets_standing past d e = if nat_lt e 128 then packets_open past d e else 0
