-- The control transfers that lines answer: each with its ticket, its line, and what such a line tells of a completion.
use Rattle.std.specs.Prelude.{ℕ, List, [], ◌∷◌, ◌++◌, map, Option, Some, None, if◌then◌else◌}
use Rattle.usb_desc.specs.declared.types.Direction.TheVariants.{In, Out}
use Rattle.usb_xfer.specs.declared.transfer.Completion.{Completion}
use Rattle.usb_error.specs.Outcomes.{◌>>=◌, result_map}
use Rattle.usb_device.specs.Futures.{FutureState, control_answer}
use Rattle.usb_device.specs.DescriptorCalls.{transferred, text_of, languages_of}
use Rattle.usb_session_text.specs.Controls.{received_line, sent_line, descriptor_line, languages_line, string_line}
use Rattle.usb_session_calls.specs.Names.{named, is_free}
use Rattle.usb_script_lines.specs.declared.item.Item.{Item}
use Rattle.usb_session_calls.specs.declared.call.Call.{Call}
use Rattle.usb_session_calls.specs.declared.call.Call.TheVariants.{Control, Future}
use Rattle.usb_session_calls.specs.declared.call.ControlCall.{ControlCall}
use Rattle.usb_session_calls.specs.declared.call.ControlCall.TheVariants as controls
use Rattle.usb_session_calls.specs.State.{State}
use Rattle.usb_session_calls.specs.Calls.{call_of}
use Rattle.usb_session_calls.specs.Answer.{Answer}
use Rattle.usb_session.specs.Answers.{answer}
use Rattle.usb_session.specs.Output.{start}
use Rattle.usb_session.specs.Served.{control_ticket_by}

-- a control transfer that a line answers: its ticket, the line, and what such a line tells of a completion
pub record ControlAnswer : Type 0 where
  pub ticket : ℕ
  pub line : List ℕ
  pub tells : Completion → List ℕ

-- what a control transfer that is awaited tells of its completion
abbrev pub told_of : ControlCall → Completion → List ℕ
told_of (controls.In target setup wanted timeout) c = received_line (control_answer In c)
told_of (controls.Out target setup bytes timeout) c = sent_line (result_map (λ _. tt) (control_answer Out c))
told_of (controls.Descriptor d kind index language timeout) c = descriptor_line (transferred (control_answer In c))
told_of (controls.Languages d timeout) c = languages_line (transferred (control_answer In c) >>= languages_of)
told_of (controls.Text d index language timeout) c = string_line (transferred (control_answer In c) >>= text_of)

-- a ticket, if there is one
abbrev pub listed : Option ℕ → List ℕ
listed None = []
listed (Some t) = t ∷ []

-- a future that is open under a name before a line, and is not behind it
abbrev pub future_gone : State → State → ℕ → Option FutureState
future_gone old new n = if is_free new.futures n then named old.futures n else None

-- the answer of a future by a line
abbrev pub answered_future : List ℕ → Option FutureState → List ControlAnswer
answered_future line None = []
answered_future line (Some f) = map (λ t. record { ticket = t; line = line; tells = λ c. received_line (control_answer f.direction c) }) (listed f.ticket)

-- what the answer of a call answers: the transfer that it hands in and awaits, or the future that it polls or awaits
abbrev pub answered_by : State → Call → Answer → List ControlAnswer
answered_by state (Future n call) a = answered_future a.line (future_gone state a.state n)
answered_by state (Control call steps) a =
    map (λ t. record { ticket = t; line = a.line; tells = told_of call }) (control_ticket_by state (Control call steps) a)
answered_by state call a = []

abbrev pub control_answers_from : State → List Item → List ControlAnswer
control_answers_from state [] = []
control_answers_from state (item ∷ items) = answered_by state (call_of item) (answer state item) ++ control_answers_from (answer state item).state items

-- those of a script, in the order of its lines
unfoldable pub control_answers : List Item → List ControlAnswer
control_answers items = control_answers_from (start items) items
