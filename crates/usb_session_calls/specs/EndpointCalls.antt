-- Calls on an open endpoint. They are barred where it is not open.
use Rattle.std.specs.Prelude.{ℕ, length, slice_get}
use Rattle.usb_desc.specs.declared.types.Direction.TheVariants.{In, Out}
use Rattle.usb_session_text.specs.Completions.{count_line}
use Rattle.usb_session_calls.specs.Names.{named}
use Rattle.usb_session_calls.specs.declared.call.EndpointCall.{EndpointCall}
use Rattle.usb_session_calls.specs.declared.call.EndpointCall.TheVariants.{SubmitIn, SubmitOut, Pending, Poll, Wait, TransferIn, TransferOut, Cancel, ClearHalt}
use Rattle.usb_session_calls.specs.State.{State, Endpoint}
use Rattle.usb_session_calls.specs.Answer.{Answer, answer_with, condition_answer, ok_answer, if_open}
use Rattle.usb_session_calls.specs.Buffers.{in_buffer, out_buffer}
use Rattle.usb_session_calls.specs.Submits.{submit_on}
use Rattle.usb_session_calls.specs.Polls.{poll_on}
use Rattle.usb_session_calls.specs.Waits.{wait_on}
use Rattle.usb_session_calls.specs.Transfers.{transfer_on}
use Rattle.usb_session_calls.specs.Closes.{cancelled}
use Rattle.usb_session_calls.specs.Halts.{halt_cleared}

-- each call at an endpoint that is open (h)
abbrev pub endpoint_called : EndpointCall → State → ℕ → Endpoint → Answer
endpoint_called (SubmitIn n timeout) state e h = submit_on state In e (in_buffer n) timeout h
endpoint_called (SubmitOut bytes timeout) state e h = submit_on state Out e (out_buffer bytes) timeout h
endpoint_called Pending state e h = answer_with state (count_line (length h.state.pending))
endpoint_called Poll state e h = poll_on state e (slice_get h.state.pending 0)
endpoint_called (Wait timeout) state e h = wait_on state e timeout (slice_get h.state.pending 0)
endpoint_called (TransferIn n timeout) state e h = transfer_on state In e (in_buffer n) timeout h
endpoint_called (TransferOut bytes timeout) state e h = transfer_on state Out e (out_buffer bytes) timeout h
endpoint_called Cancel state e h = ok_answer (cancelled state h)
endpoint_called ClearHalt state e h = halt_cleared state h

-- by the endpoint's place
unfoldable pub on_endpoint : State → ℕ → EndpointCall → Answer
on_endpoint state e call = if_open (named state.endpoints e) (endpoint_called call state e) (condition_answer state)
