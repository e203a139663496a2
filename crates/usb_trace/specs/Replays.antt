-- A kernel to which the events of a journal are done again.
use Rattle.std.specs.Prelude.{ℕ, ◌≡◌, ◌<◌, ◌≤◌, Bool, true, false, not, List, [], ◌∷◌, length, map, reverse, take, slice_get, Some, is_some}
use Rattle.usb_kernel.specs.declared.event.Event.{Event}
use Rattle.usb_kernel.specs.declared.event.Event.TheVariants.{Submit, Refuse, Packet, Ack, Echo, Fail, Discard, Reap, Unplug}
use Rattle.usb_kernel.specs.declared.event.Body.{Body}
use Rattle.usb_kernel.specs.declared.event.Body.TheVariants.{Wanted, Sent}
use Rattle.usb_kernel.specs.Value.{KernelState}
use Rattle.usb_kernel_devices.specs.Devices.{plugged_device}
use Rattle.usb_kernel_devices.specs.Errnos.{IsErrno}
use Rattle.usb_kernel_devices.specs.declared.step.KernelStep.{KernelStep}
use Rattle.usb_kernel_devices.specs.declared.step.KernelStep.TheVariants as step
use Rattle.usb_trace_lines.specs.Capacities.{with_capacity, without_capacity}
use Rattle.usb_kernel.specs.Acts.{is_gone, acts, EachActs}

-- a device is plugged unless the journal says that it is gone, and nothing is armed
pub record IsReplaying (k : KernelState) : Type 0 where
  pub plugged : (d : ℕ) → d < 256 → is_some (plugged_device k.devices d) ≡ not (is_gone k.past d)
  pub unarmed : k.armed ≡ []

-- an event was appended to a journal, with whatever capacity
abbrev pub IsAppended : List Event → List Event → Event → Type 0
IsAppended old new event = (room : ℕ) × (new ≡ with_capacity room event ∷ old)

-- a body goes with the direction of its endpoint, and is no longer than a buffer can be
abbrev pub IsBodyOf : ℕ → Body → Type 0
IsBodyOf e (Wanted n) = (128 ≤ e) × (n < 2147483648)
IsBodyOf e (Sent bytes) = (e < 128) × (length bytes < 2147483648)

-- an event can be done again: its fields go together
abbrev pub CanBeDone : Event → Type 0
CanBeDone (Submit t d e m body room deadline) = IsBodyOf e body
CanBeDone (Refuse t d e m body room errno) = IsBodyOf e body × IsErrno errno
CanBeDone (Fail d e errno) = IsErrno errno
CanBeDone (Unplug d) = d < 256
CanBeDone _ = Unit {0}

-- whether an event comes from below, as a step
abbrev pub is_below : Event → Bool
is_below (Submit t d e m body room deadline) = false
is_below (Refuse t d e m body room errno) = false
is_below (Discard t) = false
is_below event = true

-- the step as which an event came, and the timer's turn for one that came otherwise
abbrev pub step_for : Event → KernelStep
step_for (Packet d e bytes) = step.Packet d e bytes
step_for (Ack d e) = step.Ack d e
step_for (Echo d o i) = step.Echo d o i
step_for (Fail d e errno) = step.Fail d e errno
step_for (Reap t) = step.Reap (Some t)
step_for (Unplug d) = step.Unplug d
step_for _ = step.Timer

-- a journal that some events make, capacities aside: each acts, and they are these, in order
pub record IsReplay (events : List Event) (past : List Event) : Type 0 where
  pub acts : EachActs past
  pub same : map without_capacity past ≡ reverse (map without_capacity events)

-- the event at a place is the first that doesn't act
pub record StopsAt (events : List Event) (i : ℕ) : Type 0 where
  pub past : List Event
  pub before : IsReplay (take i events) past
  pub event : Event
  pub at : slice_get events i ≡ Some event
  pub idle : acts past event ≡ false
