-- The tickets that the timer may look at: those that are overdue.
use Rattle.std.specs.Prelude.{ℕ, Bool, false, List, ◌==◌, ◌&&◌, not, nat_le}
use Rattle.std.specs.List.{count_by, enumerate_from, list_any}
use Rattle.std.specs.Option.{option_map_or}
use Rattle.usb_kernel.specs.declared.event.Event.{Event}
use Rattle.usb_kernel.specs.declared.event.Event.TheVariants.{Discard}
use Rattle.usb_kernel.specs.Tickets.{Ticket, tickets}
use Rattle.usb_kernel.specs.Journal.{fate}

-- whether an event is a discard of ticket t
abbrev pub is_discard_of : ℕ → Event → Bool
is_discard_of t (Discard u) = t == u
is_discard_of t _ = false

-- whether ticket t was discarded, by hand or by the timer
abbrev pub is_discarded : List Event → ℕ → Bool
is_discarded past t = list_any (is_discard_of t) past

-- whether a ticket, in a pair behind its number, is not reaped, was not discarded, and has a deadline that is at most the clock
abbrev pub is_overdue : List Event → ℕ → (ℕ × Ticket) → Bool
is_overdue past clock p =
    not (fate past p.0).reaped && not (is_discarded past p.0) && option_map_or (λ n. nat_le n clock) p.1.deadline false

-- how many tickets are
unfoldable pub overdue_count : ℕ → List Event → ℕ
overdue_count clock past = count_by (is_overdue past clock) (enumerate_from 0 (tickets past))
