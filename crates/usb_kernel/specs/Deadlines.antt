-- What the kernel keeps of deadlines.
use Rattle.std.specs.Prelude.{ℕ, ◌≡◌, ◌≤◌, List, length, filter, Bool, true, false, Some}
use Rattle.std.specs.List.{All}
use Rattle.std.specs.List.Sorted.{IsStrictlySortedBy}
use Rattle.usb_kernel.specs.declared.event.Event.{Event}
use Rattle.usb_kernel.specs.declared.event.Event.TheVariants.{Submit, Discard, Reap}
use Rattle.usb_kernel.specs.Tickets.{tickets}
use Rattle.usb_kernel.specs.Journal.{fate}
use Rattle.usb_kernel.specs.Timers.{deadline_of, by_deadline, deadlines, is_open_entry}
use Rattle.usb_kernel.specs.Overdue.{is_discarded}

-- an entry, a deadline and a number, is of a ticket with this deadline that is not reaped and was not discarded
pub record IsKeptEntry (past : List Event) (p : ℕ × ℕ) : Type 0 where
  pub deadline : deadline_of past p.1 ≡ Some p.0
  pub unreaped : (fate past p.1).reaped ≡ false
  pub undiscarded : is_discarded past p.1 ≡ false

-- of the tickets that are not finished all deadlines are kept, in their order, each once. No ticket that is yet to come was discarded
pub record KeepsDeadlines (past : List Event) (ds : List (ℕ × ℕ)) : Type 0 where
  pub same : filter (is_open_entry past) ds ≡ filter (is_open_entry past) (deadlines past)
  pub ordered : IsStrictlySortedBy by_deadline ds
  pub each : All (IsKeptEntry past) ds
  pub coming : (t : ℕ) → length (tickets past) ≤ t → is_discarded past t ≡ false

-- whether a deadline may come or go with an event: a submission that was not refused, a discard or a reap
abbrev pub moves_deadline : Event → Bool
moves_deadline (Submit t d e m body room deadline) = true
moves_deadline (Discard t) = true
moves_deadline (Reap t) = true
moves_deadline _ = false
