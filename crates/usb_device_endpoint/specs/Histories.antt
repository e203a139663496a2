-- The calls on one handle, in their order.
use Rattle.std.specs.Prelude.{ℕ, ◌≡◌, List, [], ◌∷◌, ◌++◌}

-- a transfer was submitted, or one was taken
pub data HandleCall : Type 0 where
  Submitted : ℕ → HandleCall
  Taken : ℕ → HandleCall

-- the tickets that calls submitted, and those that they took
abbrev pub submitted_by : List HandleCall → List ℕ
submitted_by [] = []
submitted_by (Submitted t ∷ calls) = t ∷ submitted_by calls
submitted_by (Taken t ∷ calls) = submitted_by calls

abbrev pub taken_by : List HandleCall → List ℕ
taken_by [] = []
taken_by (Submitted t ∷ calls) = taken_by calls
taken_by (Taken t ∷ calls) = t ∷ taken_by calls

-- a submission puts its ticket at the end of the pending ones, and only their front is taken
abbrev pub Leads : List ℕ → List HandleCall → List ℕ → Type 0
Leads pending [] next = pending ≡ next
Leads pending (Submitted t ∷ calls) next = Leads (pending ++ t ∷ []) calls next
Leads pending (Taken t ∷ calls) next =
    (others : List ℕ) × (pending ≡ t ∷ others) × Leads others calls next
