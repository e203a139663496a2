-- `submitin`, `submitout`, `dsubmitin` and `dsubmitout`: a transfer is handed in, with a deadline where a timeout is given.
use Rattle.std.specs.Prelude.{ℕ, nat_le, not, ◌||◌, Bool, List, [], ◌∷◌, ◌++◌, length, Option, if◌then◌else◌}
use Rattle.std.specs.Option.{option_map}
use Rattle.usb_desc.specs.declared.types.Direction.{Direction}
use Rattle.usb_desc.specs.Fields.{direction_of_address}
use Rattle.usb_xfer.specs.BufferState.{BufferState}
use Rattle.usb_kernel.specs.declared.event.Event.{Event}
use Rattle.usb_kernel.specs.Info.{unreaped}
use Rattle.usb_kernel.specs.Timers.{deadline_after}
use Rattle.usb_device_endpoint.specs.EndpointState.{EndpointState}
use Rattle.usb_device_endpoint.specs.Submits.{entered}
use Rattle.usb_device_host.specs.HostState.{HostState}
use Rattle.usb_device_host.specs.HostCalls.{host_calls}
use Rattle.usb_device_host.specs.EndpointRefusals.{same_direction}
use Rattle.usb_session_calls.specs.Names.{change_named}
use Rattle.usb_session_calls.specs.State.{State, Endpoint, tickets_of}
use Rattle.usb_session_calls.specs.Answer.{Answer, condition_answer, ok_answer}

-- whether the endpoint has this direction
abbrev pub has_direction : Direction → EndpointState → Bool
has_direction direction h = same_direction (direction_of_address h.address) direction

-- whether a submission to an open endpoint is barred: where it has the other direction, where 64 transfers of it are pending,
-- or where 1,024 tickets are unreaped
abbrev pub bars_submission : List Event → Direction → EndpointState → Bool
bars_submission past direction h = not (has_direction direction h) || (nat_le 64 (length h.pending) || nat_le 1024 (unreaped past))

-- an endpoint with one more ticket
abbrev pub with_submission : ℕ → Endpoint → Endpoint
with_submission t h = record h { state = record h.state { pending = h.state.pending ++ t ∷ [] } }

-- the deadline of a transfer, where a timeout is given: it counts from the host's clock
abbrev pub deadline_by : HostState → Option ℕ → Option ℕ
deadline_by host timeout = option_map (deadline_after host.kernel.clock) timeout

-- the buffer gets the next number, which goes to the end of the endpoint's tickets
abbrev pub submitted : State → ℕ → BufferState → Option ℕ → Endpoint → State
submitted state e b timeout h =
    record state {
      host = entered host_calls state.host h.state (deadline_by state.host timeout) b;
      endpoints = change_named (with_submission (tickets_of state)) state.endpoints e;
    }

-- on an endpoint that is open (h)
abbrev pub submit_on : State → Direction → ℕ → BufferState → Option ℕ → Endpoint → Answer
submit_on state direction e b timeout h =
    if bars_submission state.host.kernel.past direction h.state then condition_answer state
    else ok_answer (submitted state e b timeout h)
