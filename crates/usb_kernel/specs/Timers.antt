-- Deadlines, and the turn of the timer.
use Rattle.std.specs.Prelude.{ℕ, ◌+◌, ◌-◌, ◌^◌, min, Bool, List, [], ◌∷◌, length, map, filter, Option, Some, None, is_none, nat_le, slice_get, option_and_then}
use Rattle.std.specs.declared.cmp.Ordering.{Ordering}
use Rattle.std.specs.Ordering.{nat_cmp, ordering_then}
use Rattle.std.specs.BTreeMap.{is_at}
use Rattle.std.specs.BTreeSet.{insert_key}
use Rattle.std.specs.Set.{remove_key}
use Rattle.usb_kernel.specs.declared.event.Event.{Event}
use Rattle.usb_kernel.specs.declared.event.Event.TheVariants.{Submit}
use Rattle.usb_kernel.specs.Tickets.{tickets}
use Rattle.usb_kernel.specs.Journal.{fate}
use Rattle.usb_kernel.specs.Discards.{after_discard}

-- when a time in nanoseconds is up: it is cut to a day, and ends at the greatest 64-bit number
abbrev pub deadline_after : ℕ → ℕ → ℕ
deadline_after clock timeout = min (2 ^ 64 - 1) (clock + min timeout 86400000000000)

-- the deadline of ticket t, if there is such a ticket and it has one
abbrev pub deadline_of : List Event → ℕ → Option ℕ
deadline_of past t = option_and_then (λ s. s.deadline) (slice_get (tickets past) t)

-- a deadline and its ticket: the earlier deadline comes first, and of two tickets with one deadline the lower number
abbrev pub by_deadline : ℕ × ℕ → ℕ × ℕ → Ordering
by_deadline a b = ordering_then (nat_cmp a.0 b.0) (nat_cmp a.1 b.1)

-- a ticket with its deadline, if it has one, put in order into these
abbrev pub with_deadline : List (ℕ × ℕ) → Option ℕ → ℕ → List (ℕ × ℕ)
with_deadline ds None t = ds
with_deadline ds (Some n) t = insert_key by_deadline ds (n, t)

-- these without that of a ticket with this deadline, if it has one
abbrev pub without_deadline : List (ℕ × ℕ) → Option ℕ → ℕ → List (ℕ × ℕ)
without_deadline ds None t = ds
without_deadline ds (Some n) t = remove_key (is_at (by_deadline (n, t))) ds

-- the deadlines of all tickets that were submitted with one, in this order. A refused ticket has none
abbrev pub deadlines : List Event → List (ℕ × ℕ)
deadlines [] = []
deadlines (Submit t d e m body room deadline ∷ before) = with_deadline (deadlines before) deadline (length (tickets before))
deadlines (_ ∷ before) = deadlines before

-- whether the ticket of an entry, a deadline and a number, is not finished (open)
abbrev pub is_open_entry : List Event → ℕ × ℕ → Bool
is_open_entry past p = is_none (fate past p.1).status

-- whether its deadline is at most the clock
abbrev pub is_up : ℕ → ℕ × ℕ → Bool
is_up clock p = nat_le p.0 clock

-- the tickets of which both is so, in this order
abbrev pub due : List Event → ℕ → List ℕ
due past clock = map (λ p. p.1) (filter (is_up clock) (filter (is_open_entry past) (deadlines past)))

-- a discard of each of these tickets, in their order
abbrev pub discarded_in_order : List Event → List ℕ → List Event
discarded_in_order past [] = past
discarded_in_order past (t ∷ ts) = discarded_in_order (after_discard past t) ts

-- the turn of the timer discards the tickets that are due
unfoldable pub timer_turned : ℕ → List Event → List Event
timer_turned clock past = discarded_in_order past (due past clock)
