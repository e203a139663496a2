-- A call on a client of messages that a session has open under a name.
use Rattle.std.specs.Prelude.{ℕ, ◌≡◌, Some, Result, OnOk, String, string_bytes}
use Rattle.std.specs.declared.alloc.Global.{Global}
use Rattle.usb_device_endpoint.specs.EndpointState.{EndpointState}
use Rattle.usb_device_host.specs.HostState.{HostState}
use Rattle.usb_msg.specs.Clients.{ClientState}
use Rattle.usb_session_calls.specs.declared.call.ClientCall.{ClientCall}
use Rattle.usb_session_calls.specs.declared.call.ClientCall.TheVariants.{Request, Response, Outstanding}
use Rattle.usb_session_calls.specs.Names.{named, change_named}
use Rattle.usb_session_calls.specs.State.{State, Client}
use Rattle.usb_session_calls.specs.Answer.{Answer}
use Rattle.usb_session_calls.specs.SessionState.{SessionState}
use Rattle.usb_session_calls.specs.Relation.{Represents}
use Rattle.usb_session_calls.specs.Answered.{Answered}
use Rattle.usb_session_calls.specs.OpenCalls.{CallKeeps}

-- the session with the host and the client that a call left
abbrev pub with_client_called : SessionState → ℕ → HostState → ClientState → SessionState
with_client_called s m host y =
    record s {
      host = host;
      clients = change_named (λ x. y) s.clients m;
    }

-- the endpoint that a call is on, and the other one. (A count is on neither)
abbrev pub called_endpoint : ClientCall → ClientState → EndpointState
called_endpoint (Request body) c = c.writer.endpoint
called_endpoint Response c = c.reader.endpoint
called_endpoint Outstanding c = c.reader.endpoint

abbrev pub other_endpoint : ClientCall → ClientState → EndpointState
other_endpoint (Request body) c = c.reader.endpoint
other_endpoint Response c = c.writer.endpoint
other_endpoint Outstanding c = c.writer.endpoint

-- what is kept over a call on the one, and the other is as it was
pub record ClientCallKeeps (call : ClientCall) (old new : HostState) (x y : ClientState) : Type 0 where
  pub called : CallKeeps old new (called_endpoint call x) (called_endpoint call y)
  pub other : other_endpoint call y ≡ other_endpoint call x

-- in whatever session the client is open it goes to the state behind the answer, whose line is
-- printed; of want of memory nothing is said. x is the client before the call, and y after it
abbrev pub ClientAnswers : {E : Type 0} → HostState → HostState → ClientState → ClientState →
    String Global → String Global → Result Unit E → (State → ℕ → Client → Answer) → Type 0
ClientAnswers old new x y before after result call =
    OnOk result
    ((s : SessionState) (state : State) (m : ℕ) (at : Client) → Represents s state → s.host ≡ old →
    named state.clients m ≡ Some at → at.state ≡ x →
    Answered (with_client_called s m new y) (string_bytes before) (string_bytes after) (call state m at))
