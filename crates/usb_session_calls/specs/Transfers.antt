-- `xferin` and `xferout`: a blocking transfer, with the steps of the line.
use Rattle.std.specs.Prelude.{ℕ, ◌==◌, nat_le, not, ◌||◌, Bool, List, [], ◌∷◌, ◌++◌, length, None, if◌then◌else◌}
use Rattle.usb_desc.specs.declared.types.Direction.{Direction}
use Rattle.usb_xfer.specs.BufferState.{BufferState}
use Rattle.usb_kernel.specs.declared.event.Event.{Event}
use Rattle.usb_kernel.specs.Info.{unreaped}
use Rattle.usb_kernel.specs.TransferCompletions.{transfer_completion}
use Rattle.usb_device_endpoint.specs.EndpointState.{EndpointState}
use Rattle.usb_device_endpoint.specs.Submits.{entered}
use Rattle.usb_device_endpoint.specs.Blocking.{blocked}
use Rattle.usb_device_host.specs.HostState.{HostState}
use Rattle.usb_device_host.specs.HostCalls.{host_calls}
use Rattle.usb_device_host.specs.TicketEnds.{host_taken}
use Rattle.usb_session_text.specs.Completions.{waited_line}
use Rattle.usb_session_calls.specs.Names.{change_named}
use Rattle.usb_session_calls.specs.State.{State, Endpoint, tickets_of}
use Rattle.usb_session_calls.specs.Answer.{Answer, answer_with, condition_answer}
use Rattle.usb_session_calls.specs.Submits.{has_direction}

-- whether a blocking transfer of an open endpoint is barred: where it has the other direction, where a transfer of it is
-- pending, or where 1,024 tickets are unreaped
abbrev pub bars_transfer : List Event → Direction → EndpointState → Bool
bars_transfer past direction h = not (has_direction direction h) || (not (length h.pending == 0) || nat_le 1024 (unreaped past))

-- an endpoint with one more ticket, which was taken
abbrev pub with_taken : ℕ → Endpoint → Endpoint
with_taken t h = record h { taken = h.taken ++ t ∷ [] }

-- ticket t is taken, and the completion that the journal now has of it is printed
abbrev pub transfer_ended : State → ℕ → ℕ → HostState → Answer
transfer_ended state e t host =
    answer_with (record state { host = host_taken host t; endpoints = change_named (with_taken t) state.endpoints e })
    (waited_line (transfer_completion host.kernel.past t))

-- the buffer is submitted as the next ticket, its completion is waited for, and it is taken
abbrev pub transfer_made : State → ℕ → BufferState → ℕ → Endpoint → Answer
transfer_made state e b timeout h =
    transfer_ended state e (tickets_of state)
    (blocked host_calls (tickets_of state) timeout (entered host_calls state.host h.state None b))

-- on an endpoint that is open (h)
abbrev pub transfer_on : State → Direction → ℕ → BufferState → ℕ → Endpoint → Answer
transfer_on state direction e b timeout h =
    if bars_transfer state.host.kernel.past direction h.state then condition_answer state else transfer_made state e b timeout h
