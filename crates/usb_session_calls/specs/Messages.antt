-- The calls of a client of messages that submit or take transfers. They are barred where the submissions that they may need are.
use Rattle.std.specs.Prelude.{ℕ, List, ◌++◌, if◌then◌else◌}
use Rattle.usb_device_host.specs.HostState.{HostState}
use Rattle.usb_device_host.specs.HostCalls.{host_calls}
use Rattle.usb_msg.specs.Requests.{Messaging, messaging, Message, requested}
use Rattle.usb_msg.specs.Responses.{responded}
use Rattle.usb_session_streams.specs.ClientCalls.{asked_of, told_of}
use Rattle.usb_session_streams.specs.ClientLines.{request_line, response_line}
use Rattle.usb_session_streams.specs.ClientNeeds.{bars_request, bars_response}
use Rattle.usb_session_calls.specs.Names.{change_named}
use Rattle.usb_session_calls.specs.State.{State, Client, tickets_of, with_host}
use Rattle.usb_session_calls.specs.Readers.{taken_by_call}
use Rattle.usb_session_calls.specs.Answer.{Answer, answer_with, condition_answer}

-- a client with the host of its session
abbrev pub messaging_at : State → Client → Messaging HostState
messaging_at state x = messaging state.host x.state

-- the tickets that a call took of an endpoint at which these were pending before it, and behind it
abbrev pub taken_to : State → HostState → List ℕ → List ℕ → List ℕ
taken_to state host before after = taken_by_call (tickets_of state) (tickets_of (with_host state host)) before after

-- the state behind a request, by what it left of host and client, and the bodies that were accepted
abbrev pub left_by_request : State → ℕ → List (List ℕ) → Messaging HostState → State
left_by_request state m asked w =
    record state {
      host = w.bus;
      clients = change_named (λ x. record x {
        state = w.client;
        sent = x.sent ++ taken_to state w.bus x.state.writer.endpoint.pending w.client.writer.endpoint.pending;
        requests = x.requests ++ asked;
      }) state.clients m;
    }

-- and behind a response, by the bodies that it answered
abbrev pub left_by_response : State → ℕ → List (List ℕ) → Messaging HostState → State
left_by_response state m told w =
    record state {
      host = w.bus;
      clients = change_named (λ x. record x {
        state = w.client;
        received = x.received ++ taken_to state w.bus x.state.reader.endpoint.pending w.client.reader.endpoint.pending;
        responses = x.responses ++ told;
      }) state.clients m;
    }

-- a request that answers so, and a response
abbrev pub request_as : State → ℕ → List ℕ → Message ℕ HostState → Answer
request_as state m body a = answer_with (left_by_request state m (asked_of body a.answer) a.left) (request_line a.answer)

abbrev pub response_as : State → ℕ → Message (List ℕ) HostState → Answer
response_as state m a = answer_with (left_by_response state m (told_of a.answer) a.left) (response_line a.answer)

-- a request with this body
abbrev pub request_on : State → ℕ → List ℕ → Client → Answer
request_on state m body x =
    if bars_request body (messaging_at state x) then condition_answer state
    else request_as state m body (requested host_calls body (messaging_at state x))

-- the next response
abbrev pub response_on : State → ℕ → Client → Answer
response_on state m x =
    if bars_response (messaging_at state x) then condition_answer state
    else response_as state m (responded host_calls (messaging_at state x))
