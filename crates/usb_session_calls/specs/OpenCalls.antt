-- A call on an endpoint that a session has open under a name.
use Rattle.std.specs.Prelude.{ℕ, ◌≡◌, Some, Result, OnOk, String, string_bytes}
use Rattle.std.specs.declared.alloc.Global.{Global}
use Rattle.usb_kernel.specs.Extends.{Extends}
use Rattle.usb_device_endpoint.specs.EndpointState.{EndpointState}
use Rattle.usb_device_endpoint.specs.Handles.{Stands, KeepsOthers}
use Rattle.usb_device_host.specs.HostState.{HostState}
use Rattle.usb_device_host.specs.HostBus.{bus_of}
use Rattle.usb_device_host.specs.HostFrames.{LineGoesOn}
use Rattle.usb_session_streams.specs.Accounts.{KeepsAccountsOf}
use Rattle.usb_session_calls.specs.Names.{named, change_named}
use Rattle.usb_session_calls.specs.State.{State, Endpoint}
use Rattle.usb_session_calls.specs.Answer.{Answer}
use Rattle.usb_session_calls.specs.SessionState.{SessionState}
use Rattle.usb_session_calls.specs.Relation.{Represents}
use Rattle.usb_session_calls.specs.Answered.{Answered}

-- what is open stays open, steps are taken from the front of the line alone, the journal goes on,
-- the endpoint stands under its key with its maximum packet size, what endpoints of other keys hold
-- has not ended, and the accounts are kept; x is the endpoint before the call, and y after it
pub record CallKeeps (old new : HostState) (x y : EndpointState) : Type 0 where
  pub line : LineGoesOn old new
  pub past : Extends old.kernel.past new.kernel.past
  pub stands : Stands (bus_of new) y
  pub others : KeepsOthers (bus_of old) (bus_of new) x.key
  pub key : y.key ≡ x.key
  pub maximum : y.maximum ≡ x.maximum
  pub accounts : KeepsAccountsOf old new x.key x.pending y.pending

-- the session with the host and the endpoint that the call left
abbrev pub with_called : SessionState → ℕ → HostState → EndpointState → SessionState
with_called s e host y = record s { host = host; endpoints = change_named (λ x. y) s.endpoints e }

-- in whatever session the endpoint is open it goes to the state behind the answer, whose line is
-- printed; of want of memory nothing is said
abbrev pub CallAnswers : {E : Type 0} → HostState → HostState → EndpointState → EndpointState →
    String Global → String Global → Result Unit E → (State → ℕ → Endpoint → Answer) → Type 0
CallAnswers old new x y before after result call =
    OnOk result
    ((s : SessionState) (state : State) (e : ℕ) (h : Endpoint) → Represents s state →
    s.host ≡ old → named state.endpoints e ≡ Some h → h.state ≡ x →
    Answered (with_called s e new y) (string_bytes before) (string_bytes after) (call state e h))
