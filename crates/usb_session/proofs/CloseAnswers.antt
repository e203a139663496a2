-- What the close of what is open under a name answers.
use Rattle.std.proofs.Common.{◌≡◌, ℕ, List, ◌++◌, Option, Some, None, Bool, true, false, Result, Ok, Err, String, string_bytes, subst}
use Rattle.std.specs.Prelude.{is_some, OnOk, if◌then◌else◌}
use Rattle.std.specs.declared.alloc.Global.{Global}
use Rattle.usb_session_text.specs.Calls.{condition_line, ok_line}
use Rattle.usb_session_calls.specs.State.{State}
use Rattle.usb_session_calls.specs.Answer.{condition_answer, ok_answer, if_open}
use Rattle.usb_session_calls.specs.SessionState.{SessionState}
use Rattle.usb_session_calls.specs.Relation.{Represents}
use Rattle.usb_session_calls.specs.Answered.{Answered, Answers}
use Rattle.usb_session_calls.proofs.Answering.{told-answered}

answered-by : {X : Type 0} (s : SessionState) (before after : List ℕ) (left : Option X → State) (o : Option X) (was : Bool) → is_some o ≡ was → Represents s (left o) → after ≡ before ++ (if was then ok_line else condition_line)
    → Answered s before after (if_open o (λ x. ok_answer (left (Some x))) (condition_answer (left None)))
answered-by s before after left None true is r line = absurd (cc)
answered-by s before after left None false is r line = told-answered s (left None) before after condition_line r line
answered-by s before after left (Some x) true is r line = told-answered s (left (Some x)) before after ok_line r line
answered-by s before after left (Some x) false is r line = absurd (cc)

-- `found` is what is open under a name in a state, if anything is, and `left` the state once it is closed
pub close-answers : {X E : Type 0} (found : State → ℕ → Option X) (left : State → ℕ → Option X → State) (old new : SessionState) (n d : ℕ) (before after : String Global) (result : Result Unit E) (was : Bool)
    → n ≡ d → ((state : State) → Represents old state → is_some (found state n) ≡ was) → ((state : State) → Represents old state → Represents new (left state n (found state n)))
    → OnOk result (string_bytes after ≡ string_bytes before ++ (if was then ok_line else condition_line))
    → Answers old new before after result (λ state. if_open (found state d) (λ x. ok_answer (left state d (Some x))) (condition_answer (left state d None)))
close-answers found left old new n d before after (Err error) was same is stands line = tt
close-answers found left old new n d before after (Ok done) was same is stands line = λ state r.
    subst (λ m. Answered new (string_bytes before) (string_bytes after) (if_open (found state m) (λ x. ok_answer (left state m (Some x))) (condition_answer (left state m None)))) same
    (answered-by new (string_bytes before) (string_bytes after) (left state n) (found state n) was (is state r) (stands state r) line)
