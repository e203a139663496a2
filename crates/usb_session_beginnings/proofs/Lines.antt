-- No line sees a place of the kernel.
use Rattle.std.proofs.Common.{Bool, List, None, Option, Result, Some, ap, false, refl, true, ℕ, ◌∙◌, ◌≡◌}
use Rattle.std.specs.Option.{option_map}
use Rattle.std.specs.Prelude.{if◌then◌else◌}
use Rattle.usb_device.specs.ControlCalls.{control_answered, controlled}
use Rattle.usb_device.specs.DescriptorCalls.{descriptor_request, languages_of, text_of, transferred}
use Rattle.usb_device.specs.Futures.{FutureState, future_answer, future_awaited}
use Rattle.usb_device_host.specs.HostState.{HostState}
use Rattle.usb_error.specs.Outcomes.{result_map, ◌>>=◌}
use Rattle.usb_script_lines.specs.ItemKinds.{steps_in}
use Rattle.usb_script_lines.specs.declared.item.Item.{Item}
use Rattle.usb_session.specs.Answers.{answer}
use Rattle.usb_session.specs.CallAnswers.{call_answer, line_answer}
use Rattle.usb_session.specs.Crowded.{bars_line}
use Rattle.usb_session.specs.Futures.{future_polled, future_waited, on_future, without_answered}
use Rattle.usb_session_beginnings.proofs.Closes.{on_close-blind}
use Rattle.usb_session_beginnings.proofs.Controls.{answered-blind, controlled-blind, future_awaited-blind, future_taken-blind}
use Rattle.usb_session_beginnings.proofs.Endpoints.{on_endpoint-blind}
use Rattle.usb_session_beginnings.proofs.Hosts.{bare}
use Rattle.usb_session_beginnings.proofs.Opens.{on_device-blind, on_interface-blind, on_open-blind, on_target-blind, on_tree-blind}
use Rattle.usb_session_beginnings.proofs.States.{AnswersBlind, all-stepped-blind, along-blind, bar-blind, bare_state, open-blind}
use Rattle.usb_session_beginnings.proofs.Streams.{on_client-blind, on_reader-blind, on_writer-blind}
use Rattle.usb_session_calls.specs.Answer.{HostAnswer, answer_with, at_host, condition_answer, if_open, left, silent}
use Rattle.usb_session_calls.specs.CalledClients.{on_client}
use Rattle.usb_session_calls.specs.CalledReaders.{on_reader}
use Rattle.usb_session_calls.specs.CalledWriters.{on_writer}
use Rattle.usb_session_calls.specs.Calls.{call_of}
use Rattle.usb_session_calls.specs.Controls.{bars_control, came_line, control_called, control_on, on_control, request_for, request_with, target_of}
use Rattle.usb_session_calls.specs.EndpointCalls.{on_endpoint}
use Rattle.usb_session_calls.specs.Names.{freed, named}
use Rattle.usb_session_calls.specs.State.{State}
use Rattle.usb_session_calls.specs.Steps.{stepped_all}
use Rattle.usb_session_calls.specs.declared.call.Call.{Call}
use Rattle.usb_session_calls.specs.declared.call.ControlCall.{ControlCall}
use Rattle.usb_session_calls.specs.declared.call.FutureCall.{FutureCall}
use Rattle.usb_session_text.specs.Controls.{descriptor_line, languages_line, received_line, sent_line, string_line}
use Rattle.usb_xfer.specs.Transfers.{request_in}
use Rattle.usb_xfer.specs.declared.error.TransferError.{TransferError}
use Rattle.usb_xfer.specs.declared.transfer.TransferData.{TransferData}
use Rattle.usb_session_calls.specs.declared.call.ControlCall.TheVariants as controls
use Rattle.usb_session_calls.specs.declared.call.FutureCall.TheVariants as futures
use Rattle.usb_session_calls.specs.declared.call.Call.TheVariants as calls

-- control transfers that are waited for
abbrev bare_left : HostAnswer → HostAnswer
bare_left a = record a { host = bare a.host }

came-blind : (n : ℕ) (request : TransferData) (timeout : ℕ) (line : Option (Result (List ℕ) TransferError) → List ℕ) (h : HostState)
    → left (controlled (bare h) n request timeout) (line (control_answered (bare h) n request timeout))
    ≡ bare_left (left (controlled h n request timeout) (line (control_answered h n request timeout)))
came-blind n request timeout line h =
    ap (λ g. left g (line (control_answered (bare h) n request timeout))) (controlled-blind n request timeout h)
    ∙ ap (λ o. left (bare (controlled h n request timeout)) (line o)) (answered-blind h n request timeout)

control_called-blind : (call : ControlCall) (h : HostState) (n : ℕ) → control_called call (bare h) n ≡ bare_left (control_called call h n)
control_called-blind (controls.In target setup wanted timeout) h n = came-blind n (request_for setup wanted) timeout (came_line received_line) h
control_called-blind (controls.Out target setup bytes timeout) h n =
    came-blind n (request_with setup bytes) timeout (came_line (λ r. sent_line (result_map (λ _. tt) r))) h
control_called-blind (controls.Descriptor d kind index language timeout) h n =
    came-blind n (request_in (descriptor_request kind index language)) timeout (λ o. came_line descriptor_line (option_map transferred o)) h
control_called-blind (controls.Languages d timeout) h n =
    came-blind n (request_in (descriptor_request 3 0 0)) timeout
    (λ o. came_line languages_line (option_map (λ r. r >>= languages_of) (option_map transferred o))) h
control_called-blind (controls.Text d index language timeout) h n =
    came-blind n (request_in (descriptor_request 3 index language)) timeout
    (λ o. came_line string_line (option_map (λ r. r >>= text_of) (option_map transferred o))) h

on_control-blind : (call : ControlCall) → AnswersBlind (λ s. on_control s call)
unfolding on_control
on_control-blind call =
    on_target-blind (target_of call) (λ s. control_on call s)
    (λ n s. bar-blind s (bars_control s.host.kernel.past) (λ s. at_host s (control_called call s.host n))
    (ap (at_host s) (control_called-blind call s.host n)))

-- and those on their way
future_answered-blind : (n : ℕ) (f : FutureState) (s : State) (host : HostState)
    → without_answered s (bare host) n f ≡ bare_state (without_answered s host n f)
future_answered-blind n f s host = ap (λ g. record s { host = g; futures = freed s.futures n }) (future_taken-blind f host)

future_polled-blind : (n : ℕ) (f : FutureState) (r : Option (Result (List ℕ) TransferError)) → AnswersBlind (λ s. future_polled s n f r)
future_polled-blind n f None s = refl
future_polled-blind n f (Some r) s = ap (λ t. answer_with t (received_line r)) (future_answered-blind n f s s.host)

future_waited-blind : (n : ℕ) (f : FutureState) → AnswersBlind (λ s. future_waited s n f)
future_waited-blind n f s =
    let host = future_awaited s.host f in
    ap (λ g. answer_with (without_answered s g n f) (came_line received_line (future_answer g f))) (future_awaited-blind f s.host)
    ∙ ap (λ t. answer_with t (came_line received_line (future_answer host f))) (future_answered-blind n f s host)

on_future-blind : (n : ℕ) (call : FutureCall) → AnswersBlind (λ s. on_future s n call)
unfolding on_future
on_future-blind n futures.Poll s =
    open-blind s (named s.futures n) (λ s f. future_polled s n f (future_answer s.host f)) (λ f. future_polled-blind n f (future_answer s.host f) s)
on_future-blind n (futures.Wait steps) s =
    along-blind steps (λ s. if_open (named s.futures n) (future_waited s n) (condition_answer s))
    (λ s. open-blind s (named s.futures n) (λ s. future_waited s n) (λ f. future_waited-blind n f s)) s

-- each call
call-blind : (call : Call) → AnswersBlind (λ s. call_answer s call)
unfolding call_answer
call-blind calls.Setup s = refl
call-blind (calls.Steps steps) s = ap silent (all-stepped-blind steps s)
call-blind calls.Now s = refl
call-blind (calls.Tree call) s = on_tree-blind call s
call-blind (calls.Open call) s = on_open-blind call s
call-blind (calls.Close call) s = on_close-blind call s
call-blind (calls.Device d call) s = on_device-blind d call s
call-blind (calls.Interface i call) s = on_interface-blind i call s
call-blind (calls.Endpoint e call steps) s = along-blind steps (λ s. on_endpoint s e call) (on_endpoint-blind e call) s
call-blind (calls.Reader r call steps) s = along-blind steps (λ s. on_reader s r call) (on_reader-blind r call) s
call-blind (calls.Writer w call steps) s = along-blind steps (λ s. on_writer s w call) (on_writer-blind w call) s
call-blind (calls.Client m call steps) s = along-blind steps (λ s. on_client s m call) (on_client-blind m call) s
call-blind (calls.Control call steps) s = along-blind steps (λ s. on_control s call) (on_control-blind call) s
call-blind (calls.Future n call) s = on_future-blind n call s

-- and so each line
barred-blind : (item : Item) (barred : Bool)
    → AnswersBlind (λ s. if barred then condition_answer (stepped_all s (steps_in item)) else line_answer s item)
barred-blind item true s = ap condition_answer (all-stepped-blind (steps_in item) s)
barred-blind item false s = call-blind (call_of item) s

pub line-blind : (item : Item) → AnswersBlind (λ s. answer s item)
unfolding answer
line-blind item s = barred-blind item (bars_line s item) s
