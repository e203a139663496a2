-- Journals in which each event acts.
use Rattle.std.specs.Prelude.{ℕ, ◌≡◌, ◌==◌, ◌||◌, ◌&&◌, Bool, true, false, not, nat_le, nat_lt, List, [], ◌∷◌, length, is_some}
use Rattle.usb_kernel.specs.declared.event.Event.{Event}
use Rattle.usb_kernel.specs.declared.event.Event.TheVariants.{Submit, Refuse, Packet, Ack, Echo, Fail, Discard, Reap, Unplug}
use Rattle.usb_kernel.specs.declared.event.Body.{Body}
use Rattle.usb_kernel.specs.declared.event.Body.TheVariants.{Wanted, Sent}
use Rattle.usb_kernel.specs.Tickets.{tickets}
use Rattle.usb_kernel.specs.Journal.{oldest}
use Rattle.usb_kernel.specs.Discards.{is_unfinished}
use Rattle.usb_kernel.specs.Completions.{reapable}
use Rattle.usb_kernel.specs.WholePackets.{is_whole}

-- whether a device is gone
abbrev pub is_gone : List Event → ℕ → Bool
is_gone [] d = false
is_gone (Unplug k ∷ before) d = k == d || is_gone before d
is_gone (_ ∷ before) d = is_gone before d

-- whether an IN body wants the maximum packet size or a nonzero multiple of it
abbrev pub wants_whole : ℕ → Body → Bool
wants_whole m (Wanted n) = n == m || is_whole m n
wants_whole m (Sent bytes) = true

-- whether an event acts on what the events before it leave: a submission, refused or not, has the next number; one that is not refused goes
-- to a device that is not gone, and wants whole packets; a packet, an acknowledgement and a failure find an open ticket, an echo two, each
-- on endpoints of the right direction; a discard is of an unfinished ticket, a reap of one that is finished and not reaped, and an
-- unplug of a device that is not gone
abbrev pub acts : List Event → Event → Bool
acts past (Submit t d e m body room deadline) = t == length (tickets past) && (not (is_gone past d) && wants_whole m body)
acts past (Refuse t d e m body room errno) = t == length (tickets past)
acts past (Packet d e bytes) = nat_le 128 e && is_some (oldest past d e)
acts past (Ack d e) = nat_lt e 128 && is_some (oldest past d e)
acts past (Echo d o i) = nat_lt o 128 && nat_le 128 i && is_some (oldest past d o) && is_some (oldest past d i)
acts past (Fail d e errno) = is_some (oldest past d e)
acts past (Discard t) = is_unfinished past t
acts past (Reap t) = is_some (reapable past t)
acts past (Unplug d) = not (is_gone past d)

-- each event of a journal acts, which is read from its latest event
abbrev pub EachActs : List Event → Type 0
EachActs [] = Unit {0}
EachActs (event ∷ before) = (acts before event ≡ true) × EachActs before
