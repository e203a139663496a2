-- What is done below a number.
use Rattle.std.specs.Prelude.{ℕ, zero, suc, List, [], ◌++◌}

-- a state once an act was done for each number below k, in order
abbrev pub below : {S : Type 0} → (S → ℕ → S) → S → ℕ → S
below act state zero = state
below act state (suc k) = act (below act state k) k

-- what each of these acts gives, one behind the other, by the state before it
abbrev pub given_below : {S X : Type 0} → (S → ℕ → S) → (S → ℕ → List X) → S → ℕ → List X
given_below act gives state zero = []
given_below act gives state (suc k) = given_below act gives state k ++ gives (below act state k) k
