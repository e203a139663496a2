-- The calls on a client of messages at a host as values, and what each keeps.
use Rattle.std.specs.Prelude.{ℕ, ◌≡◌, Bool, List, [], ◌∷◌, Result, Ok, Err}
use Rattle.usb_device_host.specs.HostState.{HostState}
use Rattle.usb_device_host.specs.HostCalls.{host_calls}
use Rattle.usb_msg.specs.Requests.{Messaging, writing_of, requested}
use Rattle.usb_msg.specs.Responses.{reading_of, responded}
use Rattle.usb_msg.specs.declared.error.MsgError.{MsgError}
use Rattle.usb_session_streams.specs.ReaderCalls.{ReaderGoesOn}
use Rattle.usb_session_streams.specs.WriterCalls.{WriterGoesOn}
use Rattle.usb_session_streams.specs.ClientNeeds.{bars_request, bars_response}

-- a request with a body, and a response
pub data ClientCall : Type 0 where
  Request : (body : List ℕ) → ClientCall
  Response : ClientCall

-- what a call leaves
abbrev pub left_by_client : ClientCall → Messaging HostState → Messaging HostState
left_by_client (Request body) w = (requested host_calls body w).left
left_by_client Response w = (responded host_calls w).left

-- whether it is barred
abbrev pub bars_client : ClientCall → Messaging HostState → Bool
bars_client (Request body) w = bars_request body w
bars_client Response w = bars_response w

-- the body of a request, where it was accepted
abbrev pub asked_of : List ℕ → Result ℕ MsgError → List (List ℕ)
asked_of body (Ok tag) = body ∷ []
asked_of body (Err error) = []

-- the body that a response answers, where it does
abbrev pub told_of : Result (List ℕ) MsgError → List (List ℕ)
told_of (Ok body) = body ∷ []
told_of (Err error) = []

-- the bodies that a call asks, and those that it tells: one or none
abbrev pub asked_by : ClientCall → Messaging HostState → List (List ℕ)
asked_by (Request body) w = asked_of body (requested host_calls body w).answer
asked_by Response w = []

abbrev pub told_by : ClientCall → Messaging HostState → List (List ℕ)
told_by (Request body) w = []
told_by Response w = told_of (responded host_calls w).answer

-- a request goes on as calls on the writer do, and leaves the reader as it is; a response goes on as
-- calls on the reader do, and leaves the writer
abbrev pub ClientGoesOn : ClientCall → Messaging HostState → Messaging HostState → Type 0
ClientGoesOn (Request body) old new =
    (new.client.reader ≡ old.client.reader) × WriterGoesOn (writing_of old) (writing_of new)
ClientGoesOn Response old new =
    (new.client.writer ≡ old.client.writer) × ReaderGoesOn (reading_of old) (reading_of new)

abbrev pub ClientCallsGoOn : Type 0
ClientCallsGoOn =
    (call : ClientCall) (w : Messaging HostState) → ClientGoesOn call w (left_by_client call w)
