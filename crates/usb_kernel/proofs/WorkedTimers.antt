-- Turns of the timer, computed.
use Rattle.std.proofs.Common.{◌≡◌, List, [], ◌∷◌, Some, None, refl}
use Rattle.std.specs.Prelude.{replicate}
use Rattle.usb_kernel.specs.declared.event.Event.{Event}
use Rattle.usb_kernel.specs.declared.event.Event.TheVariants.{Submit, Refuse, Discard, Reap, Packet}
use Rattle.usb_kernel.specs.declared.event.Body.TheVariants.{Wanted, Sent}
use Rattle.usb_kernel.specs.Timers.{timer_turned}
use Rattle.usb_kernel.specs.Overdue.{overdue_count}

-- two control transfers of 64 bytes, with the deadlines 100 and 200
pub two : List Event
two = Submit 1 0 128 64 (Wanted 64) 64 (Some 200) ∷ Submit 0 0 128 64 (Wanted 64) 64 (Some 100) ∷ []

pub none_is_due : timer_turned 99 two ≡ two
unfolding timer_turned two
none_is_due = refl

pub first_is_due : timer_turned 100 two ≡ Discard 0 ∷ two
unfolding timer_turned two
first_is_due = refl

-- a later turn discards the other alone
pub other_is_due : timer_turned 200 (Reap 0 ∷ Discard 0 ∷ two) ≡ Discard 1 ∷ Reap 0 ∷ Discard 0 ∷ two
unfolding timer_turned two
other_is_due = refl

-- a deadline serves a ticket of any endpoint: an IN ticket with 64 of 128 bytes, and an OUT ticket, of which no packet was acknowledged. What came
-- stays with the ticket
pub others : List Event
others =
    Packet 0 129 (replicate 64 7) ∷ Submit 1 0 2 64 (Sent (7 ∷ [])) 1 (Some 100) ∷ Submit 0 0 129 64 (Wanted 128) 128 (Some 100) ∷ []

pub none_of_others_is_due : timer_turned 99 others ≡ others
unfolding timer_turned others
none_of_others_is_due = refl

pub others_are_due : timer_turned 100 others ≡ Discard 1 ∷ Discard 0 ∷ others
unfolding timer_turned others
others_are_due = refl

-- by deadline, and then by number; not those without a deadline, the refused and the finished ones
pub many : List Event
many =
    Packet 0 129 (7 ∷ []) ∷ Submit 5 0 129 64 (Wanted 64) 64 (Some 1) ∷ Submit 4 0 128 8 (Wanted 8) 8 (Some 5) ∷ Refuse 3 0 128 8 (Wanted 8) 8 12
    ∷ Submit 2 0 128 8 (Wanted 8) 8 (Some 5) ∷ Submit 1 0 130 64 (Wanted 64) 64 None ∷ Submit 0 0 128 8 (Wanted 8) 8 (Some 9) ∷ []

pub in_order : timer_turned 9 many ≡ Discard 0 ∷ Discard 4 ∷ Discard 2 ∷ many
unfolding timer_turned many
in_order = refl

-- how many tickets a turn may look at: one that is finished is still one of them, and one that was discarded or reaped is none
pub first_is_overdue : overdue_count 100 two ≡ 1
unfolding overdue_count two
first_is_overdue = refl

pub other_is_overdue : overdue_count 200 (Discard 0 ∷ two) ≡ 1
unfolding overdue_count two
other_is_overdue = refl

pub finished_is_overdue : overdue_count 9 many ≡ 4
unfolding overdue_count many
finished_is_overdue = refl

pub reaped_is_not_pending : overdue_count 9 (Reap 5 ∷ many) ≡ 3
unfolding overdue_count many
reaped_is_not_pending = refl
