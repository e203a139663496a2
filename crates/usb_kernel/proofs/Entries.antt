-- The entries of the rows that pass a test: where they stand, and what a write of a row does to them.
use Rattle.std.proofs.Common.{◌≡◌, ℕ, ◌+◌, ◌<◌, ◌≤◌, suc, zero, arith, List, [], ◌∷◌, ◌++◌, length, set, get_or, Some, Bool, true, false, refl, ap, sym, ◌∙◌, slice_get, cond, inl, inr}
use Rattle.std.specs.List.{insert, remove}
use Rattle.std.proofs.lemmas.Bool.{cases_Bool}
use Rattle.std.proofs.lemmas.Option.{none-some, same_Some}
use Rattle.usb_kernel.specs.declared.slot.TicketRow.{TicketRow}
use Rattle.usb_kernel.specs.Unreaped.{entries_from}

-- one more row
pub entries-append : {X : Type 0} (p : TicketRow → Bool) (entry : ℕ → TicketRow → X) (rows : List TicketRow) (k : ℕ) (r : TicketRow) → entries_from p entry k (rows ++ r ∷ []) ≡ entries_from p entry k rows ++ entries_from p entry (k + length rows) (r ∷ [])
unfolding entries_from
entries-append p entry [] k r = let z : k + 0 ≡ k = omega arith in rw z refl
entries-append p entry (x ∷ rows) k r =
    let e : (k + 1) + length rows ≡ k + length (x ∷ rows) = omega arith in
    let others = rw e at (entries-append p entry rows (k + 1) r) in
    elim (p x) as (λ v. cond v (entry k x ∷ entries_from p entry (k + 1) (rows ++ r ∷ [])) (entries_from p entry (k + 1) (rows ++ r ∷ [])) ≡ cond v (entry k x ∷ entries_from p entry (k + 1) rows) (entries_from p entry (k + 1) rows) ++ entries_from p entry (k + length (x ∷ rows)) (r ∷ [])) [ true ↦ ap (λ ys. entry k x ∷ ys) others | false ↦ others ]

append-none : {X : Type 0} (xs : List X) → xs ++ [] ≡ xs
append-none [] = refl
append-none (x ∷ xs) = ap (λ ys. x ∷ ys) (append-none xs)

-- one that fails has none
entries-no : {X : Type 0} (p : TicketRow → Bool) (entry : ℕ → TicketRow → X) (k : ℕ) (r : TicketRow) → p r ≡ false → entries_from p entry k (r ∷ []) ≡ []
unfolding entries_from
entries-no p entry k r fails = rw fails refl

pub entries-add_none : {X : Type 0} (p : TicketRow → Bool) (entry : ℕ → TicketRow → X) (rows : List TicketRow) (r : TicketRow) → p r ≡ false → entries_from p entry 0 (rows ++ r ∷ []) ≡ entries_from p entry 0 rows
entries-add_none p entry rows r fails =
    entries-append p entry rows 0 r ∙ ap (λ ys. entries_from p entry 0 rows ++ ys) (entries-no p entry (0 + length rows) r fails) ∙ append-none (entries_from p entry 0 rows)

-- a write of a row that leaves its entry as it was
pub entries-same : {X : Type 0} (p : TicketRow → Bool) (entry : ℕ → TicketRow → X) (rows : List TicketRow) (k i : ℕ) (r next : TicketRow) → slice_get rows i ≡ Some r → p next ≡ p r → ((u : ℕ) → p r ≡ true → entry u next ≡ entry u r) → entries_from p entry k (set rows i next) ≡ entries_from p entry k rows
unfolding entries_from
entries-same p entry [] k i r next at same keeps = absurd (none-some r at)
entries-same p entry (x ∷ rows) k zero r next at same keeps =
    let is : x ≡ r = same_Some x r at in
    rw (same, is) (elim (cases_Bool (p r)) [
      | inl passes ↦ rw passes (ap (λ e. e ∷ entries_from p entry (k + 1) rows) (keeps k passes))
      | inr fails ↦ rw fails refl
    ])
entries-same p entry (x ∷ rows) k (suc i) r next at same keeps =
    let others = entries-same p entry rows (k + 1) i r next at same keeps in
    rw others refl

-- each entry stands at its number
module _ {X : Type 0} (p : TicketRow → Bool) (entry : ℕ → TicketRow → X) (number : X → ℕ) (numbered : (k : ℕ) (r : TicketRow) → number (entry k r) ≡ k) (d : X) where
  -- none is below the first
  above-cons : (e : X) (xs : List X) (k i : ℕ) → k ≤ number e → ((j : ℕ) → j < length xs → k ≤ number (get_or xs j d)) → i < length (e ∷ xs) → k ≤ number (get_or (e ∷ xs) i d)
  above-cons e xs k zero first others inside = first
  above-cons e xs k (suc i) first others inside = others i (omega arith)

  pub entries-above : (rows : List TicketRow) (k i : ℕ) → i < length (entries_from p entry k rows) → k ≤ number (get_or (entries_from p entry k rows) i d)
  unfolding entries_from
  entries-above [] k i inside = absurd (omega arith)
  entries-above (r ∷ rows) k i inside =
      let others : (j : ℕ) → j < length (entries_from p entry (k + 1) rows) → k ≤ number (get_or (entries_from p entry (k + 1) rows) j d) = λ j within. omega (arith, entries-above rows (k + 1) j within) in
      elim (cases_Bool (p r)) [
        | inl passes ↦ rw passes (above-cons (entry k r) (entries_from p entry (k + 1) rows) k i (omega (arith, numbered k r)) others (rw passes at inside))
        | inr fails ↦ rw fails (others i (rw fails at inside))
      ]

  -- they rise
  rises-cons : (e : X) (xs : List X) (i j : ℕ) → ((u : ℕ) → u < length xs → number e < number (get_or xs u d)) → ((u v : ℕ) → u < v → v < length xs → number (get_or xs u d) < number (get_or xs v d)) → i < j → j < length (e ∷ xs) → number (get_or (e ∷ xs) i d) < number (get_or (e ∷ xs) j d)
  rises-cons e xs i zero first others before inside = absurd (omega arith)
  rises-cons e xs zero (suc j) first others before inside = first j (omega arith)
  rises-cons e xs (suc i) (suc j) first others before inside = others i j (omega arith) (omega arith)

  pub entries-rise : (rows : List TicketRow) (k i j : ℕ) → i < j → j < length (entries_from p entry k rows) → number (get_or (entries_from p entry k rows) i d) < number (get_or (entries_from p entry k rows) j d)
  unfolding entries_from
  entries-rise [] k i j before inside = absurd (omega arith)
  entries-rise (r ∷ rows) k i j before inside =
      elim (cases_Bool (p r)) [
        | inl passes ↦
            rw passes
            (rises-cons (entry k r) (entries_from p entry (k + 1) rows) i j
            (λ u within. omega (arith, numbered k r, entries-above rows (k + 1) u within))
            (λ u v below within. entries-rise rows (k + 1) u v below within)
            before (rw passes at inside))
        | inr fails ↦ rw fails (entries-rise rows (k + 1) i j before (rw fails at inside))
      ]

  -- a row that passes has an entry
  pub entries-there : (rows : List TicketRow) (k i : ℕ) (r : TicketRow) → slice_get rows i ≡ Some r → p r ≡ true → (at : ℕ) × (at < length (entries_from p entry k rows)) × (number (get_or (entries_from p entry k rows) at d) ≡ k + i)
  unfolding entries_from
  entries-there [] k i r here passes = absurd (none-some r here)
  entries-there (x ∷ rows) k zero r here passes =
      let is : p x ≡ true = ap p (same_Some x r here) ∙ passes in
      rw is (0, omega arith, omega (arith, numbered k x))
  entries-there (x ∷ rows) k (suc i) r here passes =
      let later = entries-there rows (k + 1) i r here passes in
      elim (cases_Bool (p x)) [
        | inl first ↦ rw first (suc later.0, omega (arith, later.1), omega (arith, later.2))
        | inr none ↦ rw none (later.0, later.1, omega (arith, later.2))
      ]

  -- and one that fails has none
  not_there-cons : (e : X) (xs : List X) (k n at : ℕ) → number e ≡ k → k < n → ((j : ℕ) → j < length xs → number (get_or xs j d) ≡ n → ⊥) → at < length (e ∷ xs) → number (get_or (e ∷ xs) at d) ≡ n → ⊥
  not_there-cons e xs k n zero is apart others inside same = omega arith
  not_there-cons e xs k n (suc at) is apart others inside same = others at (omega arith) same

  pub entries-not_there : (rows : List TicketRow) (k i at : ℕ) (r : TicketRow) → slice_get rows i ≡ Some r → p r ≡ false → at < length (entries_from p entry k rows) → number (get_or (entries_from p entry k rows) at d) ≡ k + i → ⊥
  unfolding entries_from
  entries-not_there [] k i at r here fails inside same = none-some r here
  entries-not_there (x ∷ rows) k zero at r here fails inside same =
      let is : p x ≡ false = ap p (same_Some x r here) ∙ fails in
      omega (arith, rw is at same, entries-above rows (k + 1) at (rw is at inside))
  entries-not_there (x ∷ rows) k (suc i) at r here fails inside same =
      let e : (k + 1) + i ≡ k + suc i = omega arith in
      let others : (j : ℕ) → j < length (entries_from p entry (k + 1) rows) → number (get_or (entries_from p entry (k + 1) rows) j d) ≡ k + suc i → ⊥ = λ j within is. entries-not_there rows (k + 1) i j r here fails within (is ∙ sym e) in
      elim (cases_Bool (p x)) [
        | inl first ↦ not_there-cons (entry k x) (entries_from p entry (k + 1) rows) k (k + suc i) at (numbered k x) (omega arith) others (rw first at inside) (rw first at same)
        | inr none ↦ others at (rw none at inside) (rw none at same)
      ]

  -- a row that passes no more loses its entry
  remove-cons : (e : X) (xs ys : List X) (k n at : ℕ) → number e ≡ k → k < n → ((j : ℕ) → j < length xs → number (get_or xs j d) ≡ n → remove xs j ≡ ys) → at < length (e ∷ xs) → number (get_or (e ∷ xs) at d) ≡ n → remove (e ∷ xs) at ≡ e ∷ ys
  remove-cons e xs ys k n zero is apart others inside same = absurd (omega arith)
  remove-cons e xs ys k n (suc at) is apart others inside same = ap (λ zs. e ∷ zs) (others at (omega arith) same)

  remove-first : (e : X) (xs : List X) (k at : ℕ) → ((j : ℕ) → j < length xs → k < number (get_or xs j d)) → at < length (e ∷ xs) → number (get_or (e ∷ xs) at d) ≡ k → remove (e ∷ xs) at ≡ xs
  remove-first e xs k zero others inside same = refl
  remove-first e xs k (suc at) others inside same = absurd (omega (arith, others at (omega arith)))

  pub entries-remove : (rows : List TicketRow) (k i at : ℕ) (r next : TicketRow) → slice_get rows i ≡ Some r → p r ≡ true → p next ≡ false → at < length (entries_from p entry k rows) → number (get_or (entries_from p entry k rows) at d) ≡ k + i → remove (entries_from p entry k rows) at ≡ entries_from p entry k (set rows i next)
  unfolding entries_from
  entries-remove [] k i at r next here passes fails inside same = absurd (none-some r here)
  entries-remove (x ∷ rows) k zero at r next here passes fails inside same =
      let is : p x ≡ true = ap p (same_Some x r here) ∙ passes in
      let z : k + 0 ≡ k = omega arith in
      rw (is, fails) (remove-first (entry k x) (entries_from p entry (k + 1) rows) k at (λ j within. omega (arith, entries-above rows (k + 1) j within)) (rw is at inside) ((rw is at same) ∙ z))
  entries-remove (x ∷ rows) k (suc i) at r next here passes fails inside same =
      let e : (k + 1) + i ≡ k + suc i = omega arith in
      let others : (j : ℕ) → j < length (entries_from p entry (k + 1) rows) → number (get_or (entries_from p entry (k + 1) rows) j d) ≡ k + suc i → remove (entries_from p entry (k + 1) rows) j ≡ entries_from p entry (k + 1) (set rows i next) = λ j within is. entries-remove rows (k + 1) i j r next here passes fails within (is ∙ sym e) in
      elim (cases_Bool (p x)) [
        | inl first ↦ rw first (remove-cons (entry k x) (entries_from p entry (k + 1) rows) (entries_from p entry (k + 1) (set rows i next)) k (k + suc i) at (numbered k x) (omega arith) others (rw first at inside) (rw first at same))
        | inr none ↦ rw none (others at (rw none at inside) (rw none at same))
      ]

  -- a row that passes now gets one, at the place between the lower and the higher numbers
  insert-first : (e : X) (xs : List X) (n at : ℕ) → ((j : ℕ) → j < length xs → n < number (get_or xs j d)) → at ≤ length xs → ((j : ℕ) → j < at → number (get_or xs j d) < n) → insert xs at e ≡ e ∷ xs
  insert-first e xs n zero others inside lower = refl
  insert-first e xs n (suc at) others inside lower = absurd (omega (arith, others 0 (omega arith), lower 0 (omega arith)))

  insert-cons : (e f : X) (xs ys : List X) (k n at : ℕ) → number e ≡ k → k < n → ((j : ℕ) → j ≤ length xs → ((u : ℕ) → u < j → number (get_or xs u d) < n) → ((u : ℕ) → j ≤ u → u < length xs → n ≤ number (get_or xs u d)) → insert xs j f ≡ ys) → at ≤ length (e ∷ xs) → ((u : ℕ) → u < at → number (get_or (e ∷ xs) u d) < n) → ((u : ℕ) → at ≤ u → u < length (e ∷ xs) → n ≤ number (get_or (e ∷ xs) u d)) → insert (e ∷ xs) at f ≡ e ∷ ys
  insert-cons e f xs ys k n zero is apart others inside lower higher = absurd (omega (arith, is, higher 0 (omega arith) (omega arith)))
  insert-cons e f xs ys k n (suc at) is apart others inside lower higher =
      ap (λ zs. e ∷ zs) (others at (omega arith) (λ u below. lower (suc u) (omega arith)) (λ u above within. higher (suc u) (omega arith) (omega arith)))

  pub entries-insert : (rows : List TicketRow) (k i at : ℕ) (r next : TicketRow) → slice_get rows i ≡ Some r → p r ≡ false → p next ≡ true → at ≤ length (entries_from p entry k rows) → ((u : ℕ) → u < at → number (get_or (entries_from p entry k rows) u d) < k + i) → ((u : ℕ) → at ≤ u → u < length (entries_from p entry k rows) → k + i ≤ number (get_or (entries_from p entry k rows) u d)) → insert (entries_from p entry k rows) at (entry (k + i) next) ≡ entries_from p entry k (set rows i next)
  unfolding entries_from
  entries-insert [] k i at r next here fails passes inside lower higher = absurd (none-some r here)
  entries-insert (x ∷ rows) k zero at r next here fails passes inside lower higher =
      let is : p x ≡ false = ap p (same_Some x r here) ∙ fails in
      let z : k + 0 ≡ k = omega arith in
      rw (is, passes, z) (insert-first (entry k next) (entries_from p entry (k + 1) rows) k at (λ j within. omega (arith, entries-above rows (k + 1) j within)) (rw is at inside) (λ j below. omega (arith, rw is at (lower j below))))
  entries-insert (x ∷ rows) k (suc i) at r next here fails passes inside lower higher =
      let e : (k + 1) + i ≡ k + suc i = omega arith in
      let xs = entries_from p entry (k + 1) rows in
      let f = entry (k + suc i) next in
      let others : (j : ℕ) → j ≤ length xs → ((u : ℕ) → u < j → number (get_or xs u d) < k + suc i) → ((u : ℕ) → j ≤ u → u < length xs → k + suc i ≤ number (get_or xs u d)) → insert xs j f ≡ entries_from p entry (k + 1) (set rows i next) = λ j within below above. ap (λ n. insert xs j (entry n next)) (sym e) ∙ entries-insert rows (k + 1) i j r next here fails passes within (λ u less. omega (arith, below u less)) (λ u more inner. omega (arith, above u more inner)) in
      elim (cases_Bool (p x)) [
        | inl first ↦ rw first (insert-cons (entry k x) f xs (entries_from p entry (k + 1) (set rows i next)) k (k + suc i) at (numbered k x) (omega arith) others (rw first at inside) (λ u less. rw first at (lower u less)) (λ u more inner. rw first at (higher u more (rw first inner))))
        | inr none ↦ rw none (others at (rw none at inside) (λ u less. rw none at (lower u less)) (λ u more inner. rw none at (higher u more (rw none inner))))
      ]
