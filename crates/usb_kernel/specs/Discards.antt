-- Discards.
use Rattle.std.specs.Prelude.{ℕ, Bool, List, ◌∷◌, length, is_none, nat_lt, ◌&&◌, if◌then◌else◌}
use Rattle.usb_kernel.specs.declared.event.Event.{Event}
use Rattle.usb_kernel.specs.declared.event.Event.TheVariants.{Discard}
use Rattle.usb_kernel.specs.Tickets.{tickets}
use Rattle.usb_kernel.specs.Journal.{fate}

-- a discard is of a ticket that is not finished, which it finishes with 2 (ENOENT)
abbrev pub is_unfinished : List Event → ℕ → Bool
is_unfinished past t = nat_lt t (length (tickets past)) && is_none (fate past t).status

-- the journal after a discard
abbrev pub after_discard : List Event → ℕ → List Event
after_discard past t = if is_unfinished past t then Discard t ∷ past else past
