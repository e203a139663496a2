-- The settings of one interface, found among those of all.
use Rattle.std.proofs.Common.{ℕ, ◌≡◌, ◌<◌, arith, Bool, true, false, List, [], ◌∷◌, length, Option, Some, None, refl, ap, sym, ◌∙◌, subst}
use Rattle.std.specs.Prelude.{filter}
use Rattle.std.specs.List.{FoldsTo}
use Rattle.std.specs.Fn.{CalledAt}
use Rattle.std.specs.Iterator.{YieldsFirst, Yields, FindsItem, MakesProgress, item_count}
use denote.Param.Members.{Mut}
use denote.Ref.{Bor}

abbrev pub first : List (List ℕ) → Option (List ℕ) → List (List ℕ) → Type 0
first = YieldsFirst (λ items. items)

module _ {F : Type 0} (g : Mut F (Bor (List ℕ) × Unit {0}) Bool) (p : List ℕ → Bool) (f : F) (tests : (x : List ℕ) (b : Bool) (q : F) → CalledAt g f x b q → (q ≡ f) × (b ≡ p x)) where
  -- the items before it do not pass
  passed : (xs s t : List (List ℕ)) (j : F) → Yields first s xs t → FoldsTo (λ a x b. CalledAt g a x false b) f xs j → (filter p s ≡ filter p t) × (j ≡ f)
  passed [] s t j yields folds = (ap (filter p) yields, sym folds)
  passed (x ∷ xs) s t j yields folds =
      let told = tests x false folds.0 folds.1 in
      let next = passed xs yields.0 t j yields.2 (subst (λ (a : F). FoldsTo (λ a x b. CalledAt g a x false b) a xs j) told.0 folds.2) in
      let skips : filter p (x ∷ yields.0) ≡ filter p yields.0 = rw (← told.1) refl in
      (ap (filter p) yields.1 ∙ skips ∙ next.0, next.1)

  -- what is found is the first that passes, and what is left after it is left
  found-first : (s u : List (List ℕ)) (r : Option (List ℕ)) → FindsItem first g s f r u → first (filter p s) r (filter p u)
  found-first s u None found =
      let before = passed found.0 s found.2.0 found.1 found.2.1 found.3 in
      (before.0 ∙ ap (filter p) found.2.2.0, ap (filter p) found.2.2.1)
  found-first s u (Some x) found =
      let before = passed found.0 s found.2.0 found.1 found.2.1 found.3 in
      let told = tests x true found.4.0 (subst (λ (a : F). CalledAt g a x true found.4.0) before.1 found.4.1) in
      let taken : filter p (x ∷ u) ≡ x ∷ filter p u = rw (← told.1) refl in
      before.0 ∙ ap (filter p) found.2.2 ∙ taken

  pub finds-first : (now s u : List (List ℕ)) (r : Option (List ℕ)) → now ≡ filter p s → FindsItem first g s f r u → first now r (filter p u)
  finds-first now s u r is found = subst (λ (items : List (List ℕ)). first items r (filter p u)) (sym is) (found-first s u r found)

-- the first of what is left brings the end nearer
pub first-goes : (can : List (List ℕ) → Type 0) → ((items : List (List ℕ)) → can items) → (now after : List (List ℕ)) (r : Option (List ℕ)) → first now r after → MakesProgress can (item_count (λ items. items)) now r after
first-goes can all now after None is = record { on = λ fin. tt; keeps = tt; rests = λ fin. tt }
first-goes can all now after (Some x) is =
    let less : length after < length now = omega (arith, ap length is) in
    record { on = λ fin. (all after, tt, less); keeps = all after; rests = λ fin. tt }
