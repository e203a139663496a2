-- What is true of a state and stays true behind a call also stays so where the call may be barred, since a barred call does nothing.
use Rattle.std.proofs.Common.{◌≡◌, Bool, true, Option, Some, None, refl}
use Rattle.std.specs.Prelude.{if◌then◌else◌}
use Rattle.std.proofs.lemmas.Bool.{cond_both}
use Rattle.usb_session_calls.specs.State.{State}
use Rattle.usb_session_calls.specs.Answer.{Answer, condition_answer, if_open}

module _ (P : State → Type 0) (state : State) (here : P state) where
  pub bar-keeps : (bars : Bool) (call : Answer) → P call.state → P (if bars then condition_answer state else call).state
  bar-keeps bars call keeps = cond_both bars (condition_answer state) call (λ (a : Answer). P a.state) (λ yes_. here) (λ no_. keeps)

  pub free-keeps : (free : Bool) (call : Answer) → (free ≡ true → P call.state) → P (if free then call else condition_answer state).state
  free-keeps free call keeps = cond_both free call (condition_answer state) (λ (a : Answer). P a.state) keeps (λ no_. here)

  -- one on what is open under a name
  pub open-keeps : {X : Type 0} (o : Option X) (call : X → Answer) → ((x : X) → o ≡ Some x → P (call x).state) → P (if_open o call (condition_answer state)).state
  open-keeps None call keeps = here
  open-keeps (Some x) call keeps = keeps x refl
