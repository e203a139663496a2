-- A bus with a disk, by its host.
use Rattle.std.proofs.Common.{◌≡◌, ℕ, ◌<◌, ◌≤◌, Bool, true, false, cond, List, ◌∷◌, length, Option, Some, None, Result, Ok, Err, refl, sym, arith, subst, ltb-true}
use Rattle.std.specs.Prelude.{nat_lt, OnOk}
use Rattle.usb_xfer.specs.BufferState.{BufferState}
use Rattle.usb_xfer.specs.declared.transfer.Held.{Held}
use Rattle.usb_xfer.specs.declared.transfer.TransferData.{TransferData}
use Rattle.usb_kernel.specs.declared.event.Event.{Event}
use Rattle.usb_kernel.specs.declared.submission.Submission.{Submission}
use Rattle.usb_kernel.specs.Tickets.{tickets}
use Rattle.usb_kernel.specs.Submissions.{body_of}
use Rattle.usb_kernel.specs.Submits.{submit_or_refuse}
use Rattle.usb_device_endpoint.specs.declared.route.Route.{Route}
use Rattle.usb_device_endpoint.specs.declared.route.Turn.{Turn}
use Rattle.usb_device_endpoint.specs.declared.route.Turn.TheVariants.{Stepped, Reaped, TimeUp}
use Rattle.usb_device_endpoint.specs.Later.{IsLater}
use Rattle.usb_device_endpoint.specs.Routes.{GoesBy, submission_of}
use Rattle.usb_device_endpoint.specs.Submitted.{Entered, IsSubmitted, IsRefused}
use Rattle.usb_device_endpoint.specs.Turns.{Falls}
use Rattle.usb_device_host.specs.HostState.{HostState}
use Rattle.usb_device_host.specs.HostBus.{bus_of}
use Rattle.usb_device_host.proofs.BusLemmas.{some-buffer}
use Rattle.usb_bot_disk.specs.Standing.{packets_open, packets_standing}
use Rattle.usb_bot_disk.specs.DiskState.{DiskState}
use Rattle.usb_bot_disk.specs.DiskCalls.{disk_load, disk_bus_of, with_host}
use Rattle.usb_bot_disk.proofs.StandingLemmas.{open-submit_in, open-refuse_adds}

-- a fact of an `Ok` from two of them
pub on_ok_both : {T E P Q R : Type 0} (r : Result T E) → (P → Q → R) → OnOk r P → OnOk r Q → OnOk r R
on_ok_both (Ok x) both p q = both p q
on_ok_both (Err e) both p q = tt

-- what holds of open packets holds of those that stand
pub standing-le : (old new : List Event) (d e : ℕ) → (e < 128 → packets_open new d e ≤ packets_open old d e) → packets_standing new d e ≤ packets_standing old d e
standing-le old new d e fewer = by (nat_lt e 128) refl
  where
    by : (v : Bool) → nat_lt e 128 ≡ v → cond v (packets_open new d e) 0 ≤ cond v (packets_open old d e) 0
    by true low = fewer (ltb-true e 128 low)
    by false high = omega arith

pub load-le : (b : DiskState) (old new : List Event) → packets_standing new b.device b.out ≤ packets_standing old b.device b.out → disk_load b new ≤ disk_load b old
load-le b old new fewer = omega (arith, fewer)

-- what is entered into the host is entered into the bus
pub entered-disk : (b new : DiskState) (to : Route) (deadline : Option ℕ) (buffer : BufferState) (refusal : Option ℕ) → Entered (bus_of b.host) (bus_of new.host) to deadline buffer refusal → Entered (disk_bus_of b) (disk_bus_of new) to deadline buffer refusal
entered-disk b new to deadline buffer refusal e = record { past = e.past; clock = e.clock; owner = e.owner; keys = e.keys; errno = e.errno }

pub refused-disk : (b new : DiskState) (to : Route) (held : Held) (errno : ℕ) → IsRefused (bus_of b.host) (bus_of new.host) to held errno → IsRefused (disk_bus_of b) (disk_bus_of new) to held errno
refused-disk b new to held errno is = λ buffer some. entered-disk b new to None buffer (Some errno) (is buffer some)

pub submitted-disk : (b new : DiskState) (to : Route) (deadline : Option ℕ) (held : Held) → IsSubmitted (bus_of b.host) (bus_of new.host) to deadline held → IsSubmitted (disk_bus_of b) (disk_bus_of new) to deadline held
submitted-disk b new to deadline held is = λ buffer some. let e = is buffer some in (e.0, entered-disk b new to deadline buffer e.0 e.1)

-- and raises no number at an IN endpoint, or where it is refused
refused-le : (past : List Event) (s : Submission) (errno : ℕ) (d e : ℕ) → packets_standing (submit_or_refuse (length (tickets past)) s (Some errno) ∷ past) d e ≤ packets_standing past d e
refused-le past s errno d e =
    standing-le past (submit_or_refuse (length (tickets past)) s (Some errno) ∷ past) d e
    (λ low. open-refuse_adds past (length (tickets past)) s.device s.endpoint s.maximum (body_of s.endpoint s.buffer) s.buffer.room errno d e)

entered-le : (past : List Event) (s : Submission) (refusal : Option ℕ) (d e : ℕ) → 128 ≤ s.endpoint → packets_standing (submit_or_refuse (length (tickets past)) s refusal ∷ past) d e ≤ packets_standing past d e
entered-le past s None d e high =
    standing-le past (submit_or_refuse (length (tickets past)) s None ∷ past) d e
    (λ low. let same = open-submit_in past (length (tickets past)) s.device s.endpoint s.maximum (body_of s.endpoint s.buffer) s.buffer.room d e s.deadline low high in omega (arith, same))
entered-le past s (Some errno) d e high = refused-le past s errno d e

-- the number of a bus with the same disk, whose host has fewer turns
pub number-le : (b : DiskState) (h : HostState) → (bus_of h).turns_left ≤ (bus_of b.host).turns_left → packets_standing h.kernel.past b.device b.out ≤ packets_standing b.host.kernel.past b.device b.out →
    (disk_bus_of (with_host b h)).turns_left ≤ (disk_bus_of b).turns_left
number-le b h turns fewer = omega (arith, turns, load-le b b.host.kernel.past h.kernel.past fewer)

pub refused-left : (b : DiskState) (h : HostState) (to : Route) (t : TransferData) (errno : ℕ) → GoesBy t to → IsRefused (bus_of b.host) (bus_of h) to t.held errno → (bus_of h).turns_left ≤ (bus_of b.host).turns_left →
    (disk_bus_of (with_host b h)).turns_left ≤ (disk_bus_of b).turns_left
refused-left b h to t errno goes is turns =
    let some = some-buffer t goes.filled in
    number-le b h turns
    (subst (λ (past : List Event). packets_standing past b.device b.out ≤ packets_standing b.host.kernel.past b.device b.out) (sym (is some.0 some.1).past)
    (refused-le b.host.kernel.past (submission_of to None some.0) errno b.device b.out))

pub submitted-left : (b : DiskState) (h : HostState) (to : Route) (deadline : Option ℕ) (t : TransferData) → GoesBy t to → IsSubmitted (bus_of b.host) (bus_of h) to deadline t.held → 128 ≤ to.endpoint → (bus_of h).turns_left ≤ (bus_of b.host).turns_left →
    (disk_bus_of (with_host b h)).turns_left ≤ (disk_bus_of b).turns_left
submitted-left b h to deadline t goes is high turns =
    let some = some-buffer t goes.filled in
    let entered = is some.0 some.1 in
    number-le b h turns
    (subst (λ (past : List Event). packets_standing past b.device b.out ≤ packets_standing b.host.kernel.past b.device b.out) (sym entered.1.past)
    (entered-le b.host.kernel.past (submission_of to deadline some.0) entered.0 b.device b.out high))

-- a bus goes on while its host does
pub later-disk : (b new : DiskState) → IsLater (bus_of b.host) (bus_of new.host) → IsLater (disk_bus_of b) (disk_bus_of new)
later-disk b new l = record { past = l.past; clock = l.clock; owner = l.owner; keys = l.keys }

-- and its number falls with the host's
pub falls-disk : (b : DiskState) (h : HostState) (turn : Turn) → Falls turn (bus_of b.host).turns_left (bus_of h).turns_left → packets_standing h.kernel.past b.device b.out ≤ packets_standing b.host.kernel.past b.device b.out →
    Falls turn (disk_bus_of b).turns_left (disk_bus_of (with_host b h)).turns_left
falls-disk b h Stepped falls fewer = omega (arith, falls, load-le b b.host.kernel.past h.kernel.past fewer)
falls-disk b h Reaped falls fewer = omega (arith, falls, load-le b b.host.kernel.past h.kernel.past fewer)
falls-disk b h TimeUp falls fewer = omega (arith, falls, load-le b b.host.kernel.past h.kernel.past fewer)
