-- What is true of each open reader, or writer, and stays true whatever comes, is kept where one is made, changed or closed.
use Rattle.std.proofs.Common.{◌≡◌, ◌∙◌, ℕ, List, Option, None, Some, ap, sym, subst, inl, inr}
use Rattle.std.specs.Prelude.{replicate}
use Rattle.std.proofs.lemmas.Bool.{cases_eq}
use Rattle.std.proofs.lemmas.Option.{none-some, same_Some}
use Rattle.usb_kernel.specs.declared.event.Event.{Event}
use Rattle.usb_kernel.specs.Extends.{Extends}
use Rattle.usb_session_calls.specs.Names.{named}
use Rattle.usb_session_calls.proofs.NameLemmas.{named-replicate}
use Rattle.usb_session_calls.proofs.EndpointNameLemmas.{ChangedAt}
use Rattle.usb_session_calls.specs.State.{State}
use Rattle.usb_session.proofs.LinesBehind.{past_of}

-- it is true (At), by the journal, of each that is open under a name (its)
abbrev pub EachOpen : {X : Type 0} → (State → List (Option X)) → (List Event → X → Type 0) → State → Type 0
EachOpen {X} its At state = (n : ℕ) (x : X) → named (its state) n ≡ Some x → At (past_of state) x

-- none is open
pub none-open : {X : Type 0} (At : X → Type 0) (n : ℕ) (x : X) → named (replicate 64 None) n ≡ Some x → At x
none-open {X} At n x is = absurd (none-some x (sym (named-replicate {X = X} 64 n) ∙ is))

-- what was true before is so behind a call of each that it leaves
module _ {X : Type 0} (its : State → List (Option X)) (At : List Event → X → Type 0) (later : (old new : List Event) (x : X) → Extends old new → At old x → At new x) (old new : State) (extends : Extends (past_of old) (past_of new)) where
  -- it leaves all
  pub left-keeps : its new ≡ its old → EachOpen its At old → EachOpen its At new
  left-keeps same each n x is = later (past_of old) (past_of new) x extends (each n x (sym (ap (λ (l : List (Option X)). named l n) same) ∙ is))

  -- all but one
  but-one : (n : ℕ) (o : Option X) → ChangedAt (its old) (its new) n o → ((x : X) → o ≡ Some x → At (past_of new) x) → EachOpen its At old → EachOpen its At new
  but-one n o c here each m x is =
      elim (cases_eq m n) [
        | inl same ↦ here x (sym c.here ∙ subst (λ (k : ℕ). named (its new) k ≡ Some x) same is)
        | inr apart ↦ later (past_of old) (past_of new) x extends (each m x (sym (c.others m apart) ∙ is))
      ]

  -- one is made, or changed
  pub one-keeps : (n : ℕ) (y : X) → ChangedAt (its old) (its new) n (Some y) → At (past_of new) y → EachOpen its At old → EachOpen its At new
  one-keeps n y c here = but-one n (Some y) c (λ x is. subst (At (past_of new)) (same_Some y x is) here)

  -- one is gone
  pub gone-keeps : (n : ℕ) → ChangedAt (its old) (its new) n None → EachOpen its At old → EachOpen its At new
  gone-keeps n c = but-one n None c (λ x is. absurd (none-some x is))
