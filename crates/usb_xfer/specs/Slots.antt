-- Which ticket was taken, and what is left. `value` gives the value of a ticket once it has come,
-- and `taken` what is left of the slots when it was given back.
use Rattle.std.specs.Prelude.{ℕ, ◌≡◌, List, ◌∷◌, Option, Some, None, IfSome}

-- the front of a queue was taken, with this value
pub record TookFront {S P : Type 0} (value : S → ℕ → Option P) (taken : S → ℕ → S) (old : S) (q : List ℕ) (v : P) (left : List ℕ) (new : S) : Type 0 where
  pub front : ℕ
  pub was : q ≡ front ∷ left
  pub value_is : value old front ≡ Some v
  pub rest : new ≡ taken old front

-- the value of the front has not come, and nothing changed
pub record LeftFront {S P : Type 0} (value : S → ℕ → Option P) (old : S) (q left : List ℕ) (new : S) : Type 0 where
  pub front : ℕ
  pub others : List ℕ
  pub was : q ≡ front ∷ others
  pub none : value old front ≡ None
  pub queue : left ≡ q
  pub rest : new ≡ old

-- the ticket of an option was taken, with this value
pub record TookOption {S P : Type 0} (value : S → ℕ → Option P) (taken : S → ℕ → S) (old : S) (o : Option ℕ) (v : P) (left : Option ℕ) (new : S) : Type 0 where
  pub ticket : ℕ
  pub was : o ≡ Some ticket
  pub value_is : value old ticket ≡ Some v
  pub emptied : left ≡ None
  pub rest : new ≡ taken old ticket

-- there is no ticket or its value has not come, and nothing changed
pub record LeftOption {S P : Type 0} (value : S → ℕ → Option P) (old : S) (o left : Option ℕ) (new : S) : Type 0 where
  pub none : IfSome o (λ ticket. value old ticket ≡ None)
  pub option : left ≡ o
  pub rest : new ≡ old
