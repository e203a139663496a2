-- What the calls of the bus over a kernel alone make of it.
use Rattle.std.specs.Prelude.{ℕ, Bool, false, max, set, List, [], ◌∷◌, ◌++◌, length, Option, Some, None, Result, slice_get, unwrap_or, option_and_then}
use Rattle.std.specs.Option.{option_map}
use Rattle.usb_xfer.specs.BufferState.{BufferState}
use Rattle.usb_xfer.specs.declared.transfer.TransferData.{TransferData}
use Rattle.usb_xfer.specs.Transfers.{buffer_held}
use Rattle.usb_kernel.specs.declared.event.Event.{Event}
use Rattle.usb_kernel_devices.specs.declared.step.KernelStep.{KernelStep}
use Rattle.usb_kernel.specs.declared.submission.Submission.{Submission}
use Rattle.usb_kernel_devices.specs.declared.step.KernelCall.TheVariants as call
use Rattle.usb_kernel_devices.specs.Claims.{no_rules, ok_unless}
use Rattle.usb_kernel_devices.specs.Calls.{same}
use Rattle.usb_kernel.specs.Calls.{errno_of, called}
use Rattle.usb_kernel.specs.Completions.{waiting, lowest}
use Rattle.usb_kernel.specs.Steps.{after_discard, after_reap, after_step}
use Rattle.usb_kernel.specs.Timers.{timer_turned}
use Rattle.usb_kernel.specs.Submits.{kernel_submitted, kernel_refused}
use Rattle.usb_device_endpoint.specs.declared.route.Route.{Route}
use Rattle.usb_device_endpoint.specs.declared.route.Turn.{Turn}
use Rattle.usb_device_endpoint.specs.BusState.{BusState}
use Rattle.usb_device_endpoint.specs.BusCalls.{BusCalls}
use Rattle.usb_kernel.specs.TransferCompletions.{transfer_completion}
use Rattle.usb_device_endpoint.specs.Routes.{submission_of}
use Rattle.usb_kernel.specs.Holds.{Hold, value_for}
use Rattle.usb_device_endpoint.specs.KernelBusState.{KernelBusState}
use Rattle.usb_device_endpoint.specs.Turns.{reap_turn}

-- who holds a ticket, and whether a key is open
abbrev pub hold_at : List (Option Hold) → ℕ → Option Hold
hold_at holds t = option_and_then (λ (o : Option Hold). o) (slice_get holds t)

abbrev pub owner_at : List (Option Hold) → ℕ → Option ℕ
owner_at holds t = option_map (λ (p : Hold). p.key) (hold_at holds t)

abbrev pub key_at : List Bool → ℕ → Bool
key_at keys k = unwrap_or (slice_get keys k) false

-- the bus as its endpoints see it. A turn reaps, so the number that falls is that of the tickets that wait for their reap
abbrev pub bus_of : KernelBusState → BusState
bus_of h =
    record {
      past = h.kernel.past;
      clock = h.kernel.clock;
      owner = owner_at h.holds;
      keys = key_at h.keys;
      turns_left = length (waiting h.kernel.past);
    }

-- the transfer of a ticket that is held, once the journal gives its completion
abbrev pub bus_value : KernelBusState → ℕ → Option TransferData
bus_value h t = value_for (transfer_completion h.kernel.past t) (hold_at h.holds t)

abbrev pub with_past : KernelBusState → List Event → KernelBusState
with_past h past = record h { kernel = record h.kernel { past = past } }

-- a buffer is submitted, with a deadline or none: the next ticket is that of the key
abbrev pub hold_for : Route → TransferData → Hold
hold_for to t = record { key = to.key; endpoint = t.endpoint; kind = t.kind }

abbrev pub bus_entered : KernelBusState → Submission → Hold → KernelBusState
bus_entered h s place =
    record h {
      kernel = kernel_submitted h.kernel s;
      holds = h.holds ++ Some place ∷ [];
    }

abbrev pub bus_submitted : KernelBusState → Route → Option ℕ → TransferData → KernelBusState
bus_submitted h to deadline t = submitted_with h to deadline t (buffer_held t.held)
  where
    submitted_with : KernelBusState → Route → Option ℕ → TransferData → Option BufferState → KernelBusState
    submitted_with h to deadline t None = h
    submitted_with h to deadline t (Some b) = bus_entered h (submission_of to deadline b) (hold_for to t)

-- and refused with this errno
abbrev pub bus_refused : KernelBusState → Route → TransferData → ℕ → KernelBusState
bus_refused h to t errno = refused_with h to t errno (buffer_held t.held)
  where
    refused_with : KernelBusState → Route → TransferData → ℕ → Option BufferState → KernelBusState
    refused_with h to t errno None = h
    refused_with h to t errno (Some b) =
        record h {
          kernel = kernel_refused h.kernel (submission_of to None b) errno;
          holds = h.holds ++ Some (hold_for to t) ∷ [];
        }

-- a ticket is discarded; nobody holds it any more, since it was taken or abandoned; a key is left
abbrev pub bus_discarded : KernelBusState → ℕ → KernelBusState
bus_discarded h t = with_past h (after_discard h.kernel.past t)

abbrev pub bus_without : KernelBusState → ℕ → KernelBusState
bus_without h t = record h { holds = set h.holds t None }

abbrev pub bus_closed : KernelBusState → ℕ → KernelBusState
bus_closed h k = record h { keys = set h.keys k false }

-- a turn reaps the lowest ticket that is finished and not reaped. Where there is none, no turn is left
abbrev pub reaped_of : KernelBusState → Option ℕ → KernelBusState
reaped_of h None = h
reaped_of h (Some t) = with_past h (after_reap h.kernel.past t)

abbrev pub bus_turned : KernelBusState → KernelBusState
bus_turned h = reaped_of h (lowest h.kernel.past)

abbrev pub bus_turn : KernelBusState → Turn
bus_turn h = reap_turn (lowest h.kernel.past)

-- the clock is raised, and the timer has its turn
abbrev pub bus_idled : KernelBusState → ℕ → KernelBusState
bus_idled h until =
    record h { kernel = record h.kernel { clock = max h.kernel.clock until; past = timer_turned (max h.kernel.clock until) h.kernel.past } }

-- a halt is cleared: the kernel's answer, and what is left of the kernel
abbrev pub bus_halt_cleared : KernelBusState → ℕ → ℕ → KernelBusState
bus_halt_cleared h device endpoint =
    record h { kernel = called h.kernel device call.Halt no_rules same }

abbrev pub bus_halt_result : KernelBusState → ℕ → ℕ → Result (Unit {0}) ℕ
bus_halt_result h device endpoint = ok_unless (errno_of h.kernel device call.Halt no_rules)

-- a step of the simulation between two calls
abbrev pub bus_stepped : KernelBusState → KernelStep → KernelBusState
bus_stepped h s = record h { kernel = after_step h.kernel s }

-- what calls leave of the bus
abbrev pub kernel_bus_calls : BusCalls KernelBusState
kernel_bus_calls =
    record {
      state = bus_of;
      submitted = bus_submitted;
      refused = bus_refused;
      discarded = bus_discarded;
      abandoned = bus_without;
      taken = bus_without;
      closed = bus_closed;
      turned = bus_turned;
      turn_of = bus_turn;
      idled = bus_idled;
      halt_cleared = bus_halt_cleared;
      halt_result = bus_halt_result;
    }
