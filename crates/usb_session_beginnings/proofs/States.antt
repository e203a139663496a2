-- What sees no place of the kernel in a session: a call answers the same, and leaves the same but for the places.
use Rattle.std.proofs.Common.{Bool, List, None, Option, Some, ap, false, refl, true, ◌∙◌, ◌≡◌}
use Rattle.std.specs.Prelude.{if◌then◌else◌}
use Rattle.usb_kernel_devices.specs.declared.step.KernelStep.{KernelStep}
use Rattle.usb_session_beginnings.proofs.Hosts.{bare, rest-blind}
use Rattle.usb_session_calls.specs.Answer.{Answer, answer_with, condition_answer, if_open}
use Rattle.usb_session_calls.specs.State.{State, with_host}
use Rattle.usb_session_calls.specs.Steps.{along_steps, stepped_all, steps_applied, then_applied, with_steps}

abbrev pub bare_state : State → State
bare_state s = record s { host = bare s.host }

abbrev pub bare_answer : Answer → Answer
bare_answer a = record a { state = bare_state a.state }

-- a call that answers the same, and leaves the same but for the places
abbrev pub AnswersBlind : (State → Answer) → Type 0
AnswersBlind call = (s : State) → call (bare_state s) ≡ bare_answer (call s)

-- a call on what may be open, one that is barred, and one on a name that is free
pub open-blind : {X : Type 0} (s : State) (o : Option X) (call : State → X → Answer) → ((x : X) → call (bare_state s) x ≡ bare_answer (call s x))
    → if_open o (call (bare_state s)) (condition_answer (bare_state s)) ≡ bare_answer (if_open o (call s) (condition_answer s))
open-blind s None call blind = refl
open-blind s (Some x) call blind = blind x

pub bar-blind : (s : State) (bars : Bool) (call : State → Answer) → call (bare_state s) ≡ bare_answer (call s)
    → (if bars then condition_answer (bare_state s) else call (bare_state s)) ≡ bare_answer (if bars then condition_answer s else call s)
bar-blind s true call blind = refl
bar-blind s false call blind = blind

pub free-blind : (s : State) (free : Bool) (call : State → Answer) → call (bare_state s) ≡ bare_answer (call s)
    → (if free then call (bare_state s) else condition_answer (bare_state s)) ≡ bare_answer (if free then call s else condition_answer s)
free-blind s true call blind = blind
free-blind s false call blind = refl

-- the steps of a line
applied-blind : (s : State) → steps_applied (bare_state s) ≡ bare_state (steps_applied s)
applied-blind s = ap (with_host s) (rest-blind s.host)

pub all-stepped-blind : (steps : List KernelStep) (s : State) → stepped_all (bare_state s) steps ≡ bare_state (stepped_all s steps)
unfolding stepped_all
all-stepped-blind steps s = applied-blind (with_steps s steps)

pub along-blind : (steps : List KernelStep) (call : State → Answer) → AnswersBlind call → AnswersBlind (λ s. along_steps s steps call)
along-blind steps call blind s =
    let a = call (with_steps s steps) in
    ap then_applied (blind (with_steps s steps)) ∙ ap (λ t. answer_with t a.line) (applied-blind a.state)
