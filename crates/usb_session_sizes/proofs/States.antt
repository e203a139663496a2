-- A session's state that is bounded, and what of it a call may change.
use Rattle.std.proofs.Common.{◌≤◌, Bool, true, false, List, Option, Some, None}
use Rattle.std.specs.Prelude.{if◌then◌else◌}
use Rattle.usb_kernel_devices.specs.declared.step.KernelStep.{KernelStep}
use Rattle.usb_script_lines.specs.declared.item.Item.{Item}
use Rattle.usb_session_calls.specs.State.{State, Endpoint, Reader, Writer, Client}
use Rattle.usb_session_calls.specs.Answer.{Answer, condition_answer, if_open}
use Rattle.usb_session_calls.specs.Steps.{with_steps, along_steps, stepped_all}
use Rattle.usb_session.specs.Output.{start}
use Rattle.usb_session_sizes.proofs.Fits.{Fits, EachFits, none-fit}
use Rattle.usb_session_sizes.proofs.Hosts.{IsHostBounded, AreStepsSized, rest-bounded}
use Rattle.usb_session_sizes.proofs.Readers.{IsReaderSized}
use Rattle.usb_session_sizes.proofs.Writers.{IsWriterSized}
use Rattle.usb_session_sizes.proofs.Clients.{IsClientSized}

-- what is open under a name
abbrev pub EndpointFits : Endpoint → Type 0
EndpointFits h = h.state.maximum ≤ 2047

abbrev pub ReaderFits : Reader → Type 0
ReaderFits x = IsReaderSized x.state

abbrev pub WriterFits : Writer → Type 0
WriterFits x = IsWriterSized x.state

abbrev pub ClientFits : Client → Type 0
ClientFits x = IsClientSized x.state

-- the endpoints, the readers, the writers and the clients of a state
abbrev pub AreOpenFitting : State → Type 0
AreOpenFitting s = EachFits EndpointFits s.endpoints × EachFits ReaderFits s.readers × EachFits WriterFits s.writers × EachFits ClientFits s.clients

-- and its host
abbrev pub IsStateBounded : State → Type 0
IsStateBounded s = IsHostBounded s.host × AreOpenFitting s

-- so is the state behind an answer
abbrev pub IsAnswerBounded : Answer → Type 0
IsAnswerBounded a = IsStateBounded a.state

-- before the first call
pub start-bounded : (items : List Item) → IsStateBounded (start items)
unfolding start
start-bounded items = ((tt, tt), (none-fit EndpointFits 64, none-fit ReaderFits 64, none-fit WriterFits 64, none-fit ClientFits 64))

-- a call on what may be open, one that is allowed where something is so, and one that is barred there
pub named-bounded : {X : Type 0} (P : X → Type 0) (state : State) (o : Option X) (call : X → Answer) → Fits P o → ((x : X) → P x → IsAnswerBounded (call x)) → IsStateBounded state → IsAnswerBounded (if_open o call (condition_answer state))
named-bounded P state None call fits does is = is
named-bounded P state (Some x) call fits does is = does x fits

pub any-bounded : {X : Type 0} (state : State) (o : Option X) (call : X → Answer) → ((x : X) → IsAnswerBounded (call x)) → IsStateBounded state → IsAnswerBounded (if_open o call (condition_answer state))
any-bounded state None call does is = is
any-bounded state (Some x) call does is = does x

pub free-bounded : (state : State) (free : Bool) (call : Answer) → IsAnswerBounded call → IsStateBounded state → IsAnswerBounded (if free then call else condition_answer state)
free-bounded state true call does is = does
free-bounded state false call does is = is

pub bar-bounded : (state : State) (bars : Bool) (call : Answer) → IsAnswerBounded call → IsStateBounded state → IsAnswerBounded (if bars then condition_answer state else call)
bar-bounded state true call does is = is
bar-bounded state false call does is = does

pub either-bounded : (b : Bool) (yes_ no_ : Answer) → IsAnswerBounded yes_ → IsAnswerBounded no_ → IsAnswerBounded (if b then yes_ else no_)
either-bounded true yes_ no_ first second = first
either-bounded false yes_ no_ first second = second

-- the steps of a line, and a call with them
pub stepped_all-bounded : (state : State) (steps : List KernelStep) → AreStepsSized steps → IsStateBounded state → IsStateBounded (stepped_all state steps)
unfolding stepped_all
stepped_all-bounded state steps sized is = (rest-bounded (record state.host { steps = steps }) (is.0.0, sized), is.1)

pub along-bounded : (state : State) (steps : List KernelStep) (call : State → Answer) → AreStepsSized steps → ((s : State) → IsStateBounded s → IsAnswerBounded (call s)) → IsStateBounded state → IsAnswerBounded (along_steps state steps call)
along-bounded state steps call sized does is =
    let a = call (with_steps state steps) in
    let done = does (with_steps state steps) ((is.0.0, sized), is.1) in
    (rest-bounded a.state.host done.0, done.1)
