-- What a kernel tells of its tickets.
use Rattle.std.specs.Prelude.{ℕ, Bool, List, Option, Some, None, slice_get, not}
use Rattle.std.specs.List.{enumerate_from, count_by}
use Rattle.usb_kernel.specs.declared.event.Event.{Event}
use Rattle.usb_kernel.specs.declared.submission.TicketInfo.{TicketInfo}
use Rattle.usb_kernel.specs.Tickets.{Ticket, tickets}
use Rattle.usb_kernel.specs.Fates.{Fate, count_of}
use Rattle.usb_kernel.specs.Journal.{fate}

-- whether a ticket, in a pair behind its number, is not reaped
abbrev pub is_unreaped : (ℕ → Fate) → (ℕ × Ticket) → Bool
is_unreaped fates p = not (fates p.0).reaped

-- how many tickets are not reaped, finished or not
unfoldable pub unreaped : List Event → ℕ
unreaped past = count_by (is_unreaped (fate past)) (enumerate_from 0 (tickets past))

-- what is known of a ticket
abbrev pub info_for : Ticket → Fate → TicketInfo
info_for s f =
    record { device = s.device; endpoint = s.endpoint; status = f.status; refused = s.refused; reaped = f.reaped; count = count_of s f }

-- the same, if there is such a ticket
abbrev pub info_if : Option Ticket → Fate → Option TicketInfo
info_if None f = None
info_if (Some s) f = Some (info_for s f)

-- what a journal says of ticket t
abbrev pub info_of : List Event → ℕ → Option TicketInfo
info_of past t = info_if (slice_get (tickets past) t) (fate past t)
