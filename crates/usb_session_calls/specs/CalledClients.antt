-- Calls on a client of messages. They are barred where it is not open.
use Rattle.std.specs.Prelude.{ℕ}
use Rattle.usb_session_streams.specs.ClientLines.{outstanding_line}
use Rattle.usb_session_calls.specs.declared.call.ClientCall.{ClientCall}
use Rattle.usb_session_calls.specs.declared.call.ClientCall.TheVariants.{Request, Response, Outstanding}
use Rattle.usb_session_calls.specs.Names.{named}
use Rattle.usb_session_calls.specs.State.{State, Client}
use Rattle.usb_session_calls.specs.Answer.{Answer, answer_with, condition_answer, if_open}
use Rattle.usb_session_calls.specs.Messages.{request_on, response_on}

-- each call at a client that is open (x)
abbrev pub client_called : ClientCall → State → ℕ → Client → Answer
client_called (Request body) state m x = request_on state m body x
client_called Response state m x = response_on state m x
client_called Outstanding state m x = answer_with state (outstanding_line x.state)

-- by the client's name
unfoldable pub on_client : State → ℕ → ClientCall → Answer
on_client state m call = if_open (named state.clients m) (client_called call state m) (condition_answer state)
