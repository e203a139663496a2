-- What each call does, and so each line.
use Rattle.std.proofs.Common.{ℕ, List, [], Bool, true, false, refl, sym, subst}
use Rattle.std.specs.Prelude.{if◌then◌else◌}
use Rattle.usb_script_words.specs.EndpointKinds.{transfer_type_of, direction_of}
use Rattle.usb_session_text.specs.Completions.{now_line}
use Rattle.usb_script_lines.specs.declared.item.Item.{Item}
use Rattle.usb_script_lines.specs.ItemKinds.{steps_in}
use Rattle.usb_session_calls.specs.declared.call.Call.{Call}
use Rattle.usb_session_calls.specs.declared.call.Call.TheVariants.{Setup, Steps, Now, Tree, Open, Close, Device, Interface, Endpoint, Reader, Writer, Client, Control, Future}
use Rattle.usb_session_calls.specs.declared.call.OpenCall.{OpenCall}
use Rattle.usb_session_calls.specs.declared.call.OpenCall.TheVariants as opens
use Rattle.usb_session_calls.specs.declared.call.CloseCall.{CloseCall}
use Rattle.usb_session_calls.specs.declared.call.CloseCall.TheVariants as closes
use Rattle.usb_session_calls.specs.State.{State}
use Rattle.usb_session_calls.specs.EndpointNames.{EndpointName}
use Rattle.usb_session_calls.specs.Answer.{Answer, condition_answer}
use Rattle.usb_session_calls.specs.Steps.{with_steps, stepped_all}
use Rattle.usb_session_calls.specs.Calls.{call_of}
use Rattle.usb_session.specs.NameCalls.{on_open, on_close}
use Rattle.usb_session_calls.specs.EndpointCalls.{on_endpoint}
use Rattle.usb_session_calls.specs.CalledReaders.{on_reader}
use Rattle.usb_session_calls.specs.CalledWriters.{on_writer}
use Rattle.usb_session_calls.specs.CalledClients.{on_client}
use Rattle.usb_session_calls.specs.Controls.{request_for, request_with}
use Rattle.usb_session.specs.CallAnswers.{call_answer, line_answer}
use Rattle.usb_session.specs.Crowded.{bars_line}
use Rattle.usb_session.specs.Answers.{answer}
use Rattle.usb_session.specs.Served.{closed_by_call, closed_by}
use Rattle.usb_session.proofs.Views.{view_of}
use Rattle.usb_session.proofs.Does.{Acts, ends, quiet-stepped, told-does, along-does}
use Rattle.usb_session.proofs.DeviceLines.{open-does, clone_device-does, close_device-does, claim-does, clone_interface-does, close_interface-does, release-does, on_device-does, on_interface-does}
use Rattle.usb_session.proofs.TreeLines.{on_tree-does, open_path-does}
use Rattle.usb_session.proofs.EndpointLines.{endpoint-does, on_endpoint-does, close-does}
use Rattle.usb_session.proofs.ReaderDoes.{reader-does, inner-does, on_reader-does, close_reader-does}
use Rattle.usb_session.proofs.WriterDoes.{writer-does, writer_inner-does, on_writer-does, close_writer-does}
use Rattle.usb_session.proofs.ClientDoes.{client-does, on_client-does, close_client-does}
use Rattle.usb_session.proofs.ControlLines.{control_moves, moves-quiet, control-does, start-does, on_future-does, close_future-does}

-- what is opened, and what is closed
on_open-does : (state : State) (call : OpenCall) → Acts (on_open state call) (view_of state) [] (control_moves state (Open call) (on_open state call))
on_open-does state (opens.Device d bus address) = open-does state d bus address
on_open-does state (opens.Path d path) = open_path-does state d path
on_open-does state (opens.CloneDevice name d) = clone_device-does state name d
on_open-does state (opens.Claim d number i detach) = claim-does state d number i detach
on_open-does state (opens.CloneInterface name i) = clone_interface-does state name i
on_open-does state (opens.Endpoint e i address kind) = endpoint-does state e i address (transfer_type_of kind) (direction_of kind)
on_open-does state (opens.Reader r e size) = reader-does state r e size
on_open-does state (opens.ReaderInner e r) = inner-does state e r
on_open-does state (opens.Writer w e size) = writer-does state w e size
on_open-does state (opens.WriterInner e w) = writer_inner-does state e w
on_open-does state (opens.Client m out inp) = client-does state m out inp
on_open-does state (opens.ControlIn n target setup wanted timeout) = start-does state n target (request_for setup wanted) timeout
on_open-does state (opens.ControlOut n target setup bytes timeout) = start-does state n target (request_with setup bytes) timeout

on_close-does : (state : State) (lines : EndpointName → List (List ℕ)) (call : CloseCall)
    → Acts (on_close state call) (view_of state) (closed_by_call state lines (Close call)) (control_moves state (Close call) (on_close state call))
on_close-does state lines (closes.Device d) = close_device-does state d
on_close-does state lines (closes.Interface i) = close_interface-does state i
on_close-does state lines (closes.Release i) = release-does state i
on_close-does state lines (closes.Endpoint e) = close-does state e lines
on_close-does state lines (closes.Reader r) = close_reader-does state r lines
on_close-does state lines (closes.Writer w) = close_writer-does state w lines
on_close-does state lines (closes.Client m) = close_client-does state m lines
on_close-does state lines (closes.Future n) = close_future-does state n

-- each call, by its family
pub call-does : (state : State) (lines : EndpointName → List (List ℕ)) (call : Call)
    → Acts (call_answer state call) (view_of state) (closed_by_call state lines call) (control_moves state call (call_answer state call))
unfolding call_answer now_line
call-does state lines Setup = told-does state [] refl
call-does state lines (Steps steps) = ends refl (quiet-stepped state steps)
call-does state lines Now = told-does state (now_line state.host.kernel.clock) refl
call-does state lines (Tree call) = on_tree-does state call
call-does state lines (Open call) = on_open-does state call
call-does state lines (Close call) = on_close-does state lines call
call-does state lines (Device d call) = on_device-does state d call
call-does state lines (Interface i call) = on_interface-does state i call
call-does state lines (Endpoint e call steps) = along-does state steps (λ s. on_endpoint s e call) (on_endpoint-does (with_steps state steps) e call)
call-does state lines (Reader r call steps) = along-does state steps (λ s. on_reader s r call) (on_reader-does (with_steps state steps) r call)
call-does state lines (Writer w call steps) = along-does state steps (λ s. on_writer s w call) (on_writer-does (with_steps state steps) w call)
call-does state lines (Client m call steps) = along-does state steps (λ s. on_client s m call) (on_client-does (with_steps state steps) m call)
call-does state lines (Control call steps) = control-does state call steps
call-does state lines (Future n call) = on_future-does state n call

-- where the session is crowded a call does what its steps do
crowded-does : (state : State) (call : Call) (line : Item) → Acts (condition_answer (stepped_all state (steps_in line))) (view_of state) [] (control_moves state call (condition_answer (stepped_all state (steps_in line))))
crowded-does state call line =
    let a = condition_answer (stepped_all state (steps_in line)) in
    subst (λ ms. Acts a (view_of state) [] ms) (sym (moves-quiet state call a (quiet-stepped state (steps_in line)))) (ends refl (quiet-stepped state (steps_in line)))

-- both, by whether the session is crowded
abbrev answer_if : State → Item → Bool → Answer
answer_if state line b = if b then condition_answer (stepped_all state (steps_in line)) else line_answer state line

pub answer-does : (state : State) (lines : EndpointName → List (List ℕ)) (line : Item) → Acts (answer state line) (view_of state) (closed_by state lines line) (control_moves state (call_of line) (answer state line))
unfolding answer
answer-does state lines line = by (bars_line state line)
  where
    by : (b : Bool) → Acts (answer_if state line b) (view_of state) (if b then [] else closed_by_call state lines (call_of line)) (control_moves state (call_of line) (answer_if state line b))
    by true = crowded-does state (call_of line) line
    by false = call-does state lines (call_of line)
