-- Waits and blocking transfers at a small host, computed.
use Rattle.std.specs.Prelude.{Some, ◌≡◌, refl, true, false, List, [], ◌∷◌, None}
use Rattle.usb_desc.specs.declared.types.TransferType.TheVariants.{Bulk}
use Rattle.usb_kernel.specs.declared.event.Event.{Event}
use Rattle.usb_kernel.specs.declared.event.Event.TheVariants.{Submit, Packet, Discard, Reap}
use Rattle.usb_kernel.specs.declared.event.Body.TheVariants.{Wanted}
use Rattle.usb_kernel_devices.specs.declared.step.KernelStep.{KernelStep}
use Rattle.usb_kernel_devices.specs.declared.step.KernelStep.TheVariants as step
use Rattle.usb_kernel.specs.Completions.{completion}
use Rattle.usb_kernel.specs.TransferCompletions.{transfer_completion}
use Rattle.usb_device_endpoint.specs.Waits.{is_reaped, waited}
use Rattle.usb_device_endpoint.specs.Blocking.{waited_by_seconds, blocked}
use Rattle.usb_device_ledger.specs.Entries.{HeldBy}
use Rattle.usb_device_host.specs.HostState.{HostState}
use Rattle.usb_device_host.specs.TicketEnds.{came}
use Rattle.usb_device_host.specs.HostTurns.{host_stepped, host_reaped, host_turned, host_turn}
use Rattle.usb_device_host.specs.HostCalls.{host_discarded, host_calls}

-- ticket 0 is a transfer of 8 bytes on endpoint 81 of device 0, in packets of at most 4
abbrev submitted : Event
submitted = Submit 0 0 129 4 (Wanted 8) 8 None

-- the endpoint of key 0 holds it, and these steps are left
abbrev with_steps : List KernelStep → HostState
with_steps steps =
    record {
      kernel = record { past = submitted ∷ []; devices = []; clock = 0; armed = []; spare = 9 };
      devices = [];
      interfaces = [];
      endpoints = Some (record { interface = Some 0; address = 129; is_open = true }) ∷ [];
      tickets = HeldBy (record { key = 0; endpoint = 129; kind = Bulk }) ∷ [];
      steps = steps;
      slot_count = 1;
    }

-- at 5 nanoseconds a short packet finishes it, and then it is reaped
abbrev line : List KernelStep
line = step.Clock 5 ∷ step.Packet 0 129 (7 ∷ []) ∷ step.Reap None ∷ step.Clock 100 ∷ []

-- a wait of 10 nanoseconds finds it before the last step
pub found : is_reaped host_calls 0 (waited host_calls 0 10 (with_steps line)) ≡ true
unfolding waited host_turned host_turn host_stepped host_reaped came completion transfer_completion
found = refl

pub found_steps : (waited host_calls 0 10 (with_steps line)).steps ≡ step.Clock 100 ∷ []
unfolding waited host_turned host_turn host_stepped host_reaped came completion transfer_completion
found_steps = refl

-- a wait of 5 is over at the first step
pub late : is_reaped host_calls 0 (waited host_calls 0 5 (with_steps line)) ≡ false
unfolding waited host_turned host_turn host_stepped host_reaped came completion transfer_completion
late = refl

pub late_steps : (waited host_calls 0 5 (with_steps line)).steps ≡ step.Packet 0 129 (7 ∷ []) ∷ step.Reap None ∷ step.Clock 100 ∷ []
unfolding waited host_turned host_turn host_stepped host_reaped came completion transfer_completion
late_steps = refl

-- a wait of nothing takes no step, and finds nothing
pub at_once : waited host_calls 0 0 (with_steps line) ≡ with_steps line
unfolding waited host_turned host_turn host_stepped host_reaped came completion transfer_completion
at_once = refl

pub at_once_none : is_reaped host_calls 0 (waited host_calls 0 0 (with_steps line)) ≡ false
unfolding waited host_turned host_turn host_stepped host_reaped came completion transfer_completion
at_once_none = refl

-- where no step reaps it, the wait does
pub reaped : (waited host_calls 0 10 (with_steps (step.Packet 0 129 (7 ∷ []) ∷ []))).kernel.past ≡ Reap 0 ∷ Packet 0 129 (7 ∷ []) ∷ submitted ∷ []
unfolding waited host_turned host_turn host_stepped host_reaped came completion transfer_completion
reaped = refl

-- with no step and no ticket that is finished, time is up
pub up : waited host_calls 0 10 (with_steps []) ≡ with_steps []
unfolding waited host_turned host_turn host_stepped host_reaped came completion transfer_completion
up = refl

pub up_none : is_reaped host_calls 0 (waited host_calls 0 10 (with_steps [])) ≡ false
unfolding waited host_turned host_turn host_stepped host_reaped came completion transfer_completion
up_none = refl

-- a blocking transfer of 5 is discarded then. Waits of a second are over at 3 and at 5 seconds, and the last one reaps it; a packet that
-- comes after the discard is nobody's
pub cancelled :
    (blocked host_calls 0 5 (with_steps (step.Clock 5 ∷ step.Clock 3000000000 ∷ step.Clock 5000000000 ∷ step.Packet 0 129 (7 ∷ []) ∷ []))).kernel.past ≡ Reap 0 ∷ Discard 0 ∷ submitted ∷ []
unfolding waited waited_by_seconds host_turned host_turn host_discarded host_stepped host_reaped came completion transfer_completion
cancelled = refl

pub cancelled_steps : (blocked host_calls 0 5 (with_steps (step.Clock 5 ∷ step.Clock 3000000000 ∷ step.Clock 5000000000 ∷ step.Packet 0 129 (7 ∷ []) ∷ []))).steps ≡ []
unfolding waited waited_by_seconds host_turned host_turn host_discarded host_stepped host_reaped came completion transfer_completion
cancelled_steps = refl

-- one that is finished in time is not discarded
pub in_time : (blocked host_calls 0 10 (with_steps line)).kernel.past ≡ Reap 0 ∷ Packet 0 129 (7 ∷ []) ∷ submitted ∷ []
unfolding waited waited_by_seconds host_turned host_turn host_discarded host_stepped host_reaped came completion transfer_completion
in_time = refl
