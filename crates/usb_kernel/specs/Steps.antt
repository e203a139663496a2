-- What a step makes of a kernel. A step with nothing to act on leaves no event.
pub use Rattle.usb_kernel.specs.Discards.{is_unfinished, after_discard}
use Rattle.std.specs.Prelude.{ℕ, ◌-◌, List, [], ◌∷◌, ◌++◌, max, Option, Some, None, is_some, nat_le, nat_lt, ◌&&◌, if◌then◌else◌}
use Rattle.usb_kernel.specs.declared.event.Event.{Event}
use Rattle.usb_kernel.specs.declared.event.Event.TheVariants.{Packet, Ack, Echo, Fail, Reap, Unplug}
use Rattle.usb_kernel_devices.specs.declared.devices.DeviceState.{DeviceState}
use Rattle.usb_kernel.specs.declared.submission.Done.{Done}
use Rattle.usb_kernel_devices.specs.declared.step.Armed.{Armed}
use Rattle.usb_kernel_devices.specs.declared.step.KernelStep.{KernelStep}
use Rattle.usb_kernel_devices.specs.declared.step.KernelStep.TheVariants as step
use Rattle.usb_kernel.specs.Journal.{oldest}
use Rattle.usb_kernel_devices.specs.Errnos.{IsErrno}
use Rattle.usb_kernel.specs.Completions.{reapable, lowest}
use Rattle.usb_kernel_devices.specs.Devices.{plugged_device, devices_unplugged}
use Rattle.usb_kernel.specs.Timers.{timer_turned}
use Rattle.usb_kernel.specs.Value.{KernelState}

-- a packet goes to the oldest unfinished IN ticket of its endpoint
abbrev pub after_packet : List Event → ℕ → ℕ → List ℕ → List Event
after_packet past d e b = if nat_le 128 e && is_some (oldest past d e) then Packet d e b ∷ past else past

-- an acknowledgement is of the oldest unfinished OUT ticket of its endpoint
abbrev pub after_ack : List Event → ℕ → ℕ → List Event
after_ack past d e = if nat_lt e 128 && is_some (oldest past d e) then Ack d e ∷ past else past

-- an echo is of the oldest unfinished tickets of an OUT and of an IN endpoint of a device
abbrev pub after_echo : List Event → ℕ → ℕ → ℕ → List Event
after_echo past d o i =
    if nat_lt o 128 && nat_le 128 i && is_some (oldest past d o) && is_some (oldest past d i) then Echo d o i ∷ past
    else past

-- a failure is of the oldest unfinished ticket of its endpoint
abbrev pub after_fail : List Event → ℕ → ℕ → ℕ → List Event
after_fail past d e errno = if is_some (oldest past d e) then Fail d e errno ∷ past else past

-- an unplug is of a plugged device
abbrev pub after_unplug : List DeviceState → List Event → ℕ → List Event
after_unplug devices past d = if is_some (plugged_device devices d) then Unplug d ∷ past else past

-- a reap is of a ticket that is finished and not reaped
abbrev pub after_reap : List Event → ℕ → List Event
after_reap past t = if is_some (reapable past t) then Reap t ∷ past else past

-- a step that reaps names its ticket, or takes the lowest that is finished and not reaped
abbrev pub reaped_by : List Event → Option ℕ → Option ℕ
reaped_by past None = lowest past
reaped_by past (Some t) = Some t

-- the journal after the reap of this ticket, if there is one
abbrev pub after_reap_of : List Event → Option ℕ → List Event
after_reap_of past None = past
after_reap_of past (Some t) = after_reap past t

-- the completion that this reap gives
abbrev pub reapable_of : List Event → Option ℕ → Option Done
reapable_of past None = None
reapable_of past (Some t) = reapable past t

-- the journal after a step
abbrev pub stepped : List DeviceState → ℕ → List Event → KernelStep → List Event
stepped devices clock past (step.Packet d e b) = after_packet past d e b
stepped devices clock past (step.Ack d e) = after_ack past d e
stepped devices clock past (step.Echo d o i) = after_echo past d o i
stepped devices clock past (step.Fail d e errno) = after_fail past d e errno
stepped devices clock past (step.Unplug d) = after_unplug devices past d
stepped devices clock past (step.Clock to) = past
stepped devices clock past step.Timer = timer_turned clock past
stepped devices clock past (step.Reap ticket) = after_reap_of past (reaped_by past ticket)
stepped devices clock past (step.Refuse d call errno) = past

-- a step gives a completion exactly at a reap that acts
abbrev pub step_done : List Event → KernelStep → Option Done
step_done past (step.Reap ticket) = reapable_of past (reaped_by past ticket)
step_done past _ = None

-- the devices after a step: an unplug lasts
abbrev pub devices_stepped : List DeviceState → KernelStep → List DeviceState
devices_stepped devices (step.Unplug d) = devices_unplugged devices d
devices_stepped devices _ = devices

-- the clock after a step: it never falls
abbrev pub clock_stepped : ℕ → KernelStep → ℕ
clock_stepped clock (step.Clock to) = max clock to
clock_stepped clock _ = clock

-- the armed refusals after a step: one more at the end, also where the device is unplugged or
-- none has the number
abbrev pub armed_stepped : List Armed → KernelStep → List Armed
armed_stepped armed (step.Refuse d call errno) = armed ++ record { device = d; call = call; errno = errno } ∷ []
armed_stepped armed _ = armed

-- the kernel after a step, which has used one place
abbrev pub after_step : KernelState → KernelStep → KernelState
after_step k s =
    record {
      past = stepped k.devices k.clock k.past s;
      devices = devices_stepped k.devices s;
      clock = clock_stepped k.clock s;
      armed = armed_stepped k.armed s;
      spare = k.spare - 1;
    }

-- the errno of a step that fails or refuses is from 1 to 4095
abbrev pub HasErrno : KernelStep → Type 0
HasErrno (step.Fail d e errno) = IsErrno errno
HasErrno (step.Refuse d call errno) = IsErrno errno
HasErrno _ = Unit {0}
