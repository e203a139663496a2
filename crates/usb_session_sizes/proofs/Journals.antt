-- The journal stays bounded over discards, reaps, steps and submissions.
use Rattle.std.proofs.Common.{ℕ, ◌≤◌, Bool, true, false, List, [], ◌∷◌, length, Option, Some, None}
use Rattle.std.specs.Prelude.{◌&&◌, nat_le, nat_lt, is_some, if◌then◌else◌}
use Rattle.std.proofs.lemmas.Bool.{cond_both, leb-true, leb-false}
use Rattle.usb_xfer.specs.BufferState.{BufferState}
use Rattle.usb_kernel_devices.specs.declared.devices.DeviceState.{DeviceState}
use Rattle.usb_kernel_devices.specs.declared.step.KernelStep.{KernelStep}
use Rattle.usb_kernel_devices.specs.declared.step.KernelStep.TheVariants as step
use Rattle.usb_kernel.specs.declared.event.Event.{Event}
use Rattle.usb_kernel.specs.declared.event.Event.TheVariants.{Packet, Ack, Echo, Fail, Discard, Reap, Unplug}
use Rattle.usb_kernel.specs.declared.event.Body.TheVariants.{Wanted, Sent}
use Rattle.usb_kernel.specs.declared.submission.Submission.{Submission}
use Rattle.usb_kernel.specs.Completions.{reapable}
use Rattle.usb_kernel.specs.Discards.{is_unfinished, after_discard}
use Rattle.usb_kernel.specs.Journal.{oldest}
use Rattle.usb_kernel.specs.Steps.{after_reap, after_reap_of, reaped_by, stepped}
use Rattle.usb_kernel.specs.Submissions.{body_of}
use Rattle.usb_kernel.specs.Submits.{submit_or_refuse}
use Rattle.usb_kernel.specs.Timers.{due, discarded_in_order, timer_turned}
use Rattle.usb_kernel_devices.specs.Devices.{plugged_device}
use Rattle.usb_trace_lines.specs.Directions.{IsBodyDirected}
use Rattle.usb_trace_lines.specs.Forms.{IsBodySized}
use Rattle.usb_session_sizes.specs.Bounds.{IsBounded, AreBounded}

-- an event comes or none
grows : (b : Bool) (event : Event) (past : List Event) → IsBounded event → AreBounded past → AreBounded (if b then event ∷ past else past)
grows true event past is all = (is, all)
grows false event past is all = all

-- discards and reaps
pub discard-bounded : (past : List Event) (t : ℕ) → AreBounded past → AreBounded (after_discard past t)
discard-bounded past t all = grows (is_unfinished past t) (Discard t) past tt all

in_order-bounded : (past : List Event) (ts : List ℕ) → AreBounded past → AreBounded (discarded_in_order past ts)
in_order-bounded past [] all = all
in_order-bounded past (t ∷ ts) all = in_order-bounded (after_discard past t) ts (discard-bounded past t all)

pub timer-bounded : (clock : ℕ) (past : List Event) → AreBounded past → AreBounded (timer_turned clock past)
unfolding timer_turned
timer-bounded clock past all = in_order-bounded past (due past clock) all

pub reap-bounded : (past : List Event) (t : ℕ) → AreBounded past → AreBounded (after_reap past t)
reap-bounded past t all = grows (is_some (reapable past t)) (Reap t) past tt all

reap_of-bounded : (past : List Event) (o : Option ℕ) → AreBounded past → AreBounded (after_reap_of past o)
reap_of-bounded past None all = all
reap_of-bounded past (Some t) all = reap-bounded past t all

-- a step, of which a packet has a size that a trace tells
abbrev pub IsStepBounded : KernelStep → Type 0
IsStepBounded (step.Packet d e bytes) = length bytes ≤ 65536
IsStepBounded s = Unit {0}

pub step-bounded : (devices : List DeviceState) (clock : ℕ) (past : List Event) (s : KernelStep) → IsStepBounded s → AreBounded past → AreBounded (stepped devices clock past s)
step-bounded devices clock past (step.Packet d e b) is all = grows (nat_le 128 e && is_some (oldest past d e)) (Packet d e b) past is all
step-bounded devices clock past (step.Ack d e) is all = grows (nat_lt e 128 && is_some (oldest past d e)) (Ack d e) past tt all
step-bounded devices clock past (step.Echo d o i) is all = grows (nat_lt o 128 && nat_le 128 i && is_some (oldest past d o) && is_some (oldest past d i)) (Echo d o i) past tt all
step-bounded devices clock past (step.Fail d e errno) is all = grows (is_some (oldest past d e)) (Fail d e errno) past tt all
step-bounded devices clock past (step.Unplug d) is all = grows (is_some (plugged_device devices d)) (Unplug d) past tt all
step-bounded devices clock past (step.Clock to) is all = all
step-bounded devices clock past step.Timer is all = timer-bounded clock past all
step-bounded devices clock past (step.Reap ticket) is all = reap_of-bounded past (reaped_by past ticket) all
step-bounded devices clock past (step.Refuse d call errno) is all = all

-- a buffer that asks for so many bytes at most, and has so many
pub record IsBufferSized (b : BufferState) : Type 0 where
  pub requested : b.requested ≤ 67582
  pub bytes : length b.bytes ≤ 67582

body-sized : (endpoint : ℕ) (b : BufferState) → IsBufferSized b → IsBodySized (body_of endpoint b)
body-sized endpoint b is = elim (nat_le 128 endpoint) as (λ v. IsBodySized (if v then Wanted b.requested else Sent b.bytes)) [ true ↦ is.requested | false ↦ is.bytes ]

-- an address tells whether bytes are wanted or sent
body-directed : (endpoint : ℕ) (b : BufferState) → IsBodyDirected endpoint (body_of endpoint b)
body-directed endpoint b =
    cond_both (nat_le 128 endpoint) (Wanted b.requested) (Sent b.bytes) (IsBodyDirected endpoint)
    (λ yes_. leb-true 128 endpoint yes_) (λ no_. leb-false 128 endpoint no_)

-- a submission, refused or not
pub submission-bounded : (t : ℕ) (s : Submission) (o : Option ℕ) → s.maximum ≤ 65536 → IsBufferSized s.buffer → IsBounded (submit_or_refuse t s o)
submission-bounded t s None maximum is = (maximum, body-sized s.endpoint s.buffer is, body-directed s.endpoint s.buffer)
submission-bounded t s (Some errno) maximum is = (maximum, body-sized s.endpoint s.buffer is, body-directed s.endpoint s.buffer)
