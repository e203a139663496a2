-- Lists in order, with one more at its place, or with one less.
use Rattle.std.proofs.Common.{◌≡◌, List, [], ◌∷◌, Bool, true, false, cond, refl, ap, sym, ◌∙◌, inl, inr}
use Rattle.std.specs.Prelude.{filter}
use Rattle.std.specs.List.{AllByRecursion}
use Rattle.std.specs.List.Sorted.{IsStrictlySortedBy}
use Rattle.std.specs.Cmp.{IsTotalOrder}
use Rattle.std.specs.declared.cmp.Ordering.{Ordering}
use Rattle.std.specs.declared.cmp.Ordering.TheVariants.{Less, Equal, Greater}
use Rattle.std.specs.Ordering.{match_ordering, ordering_reverse}
use Rattle.std.specs.BTreeSet.{insert_key}
use Rattle.std.specs.Set.{remove_key}
use Rattle.std.proofs.lemmas.Bool.{cases_Bool}

module _ {K : Type 0} (R : K → K → Ordering) (o : IsTotalOrder R) where
  all-filter : (P : K → Type 0) (p : K → Bool) (xs : List K) → AllByRecursion P xs → AllByRecursion P (filter p xs)
  all-filter P p [] all = tt
  all-filter P p (x ∷ xs) all = elim (p x) as (λ v. AllByRecursion P (cond v (x ∷ filter p xs) (filter p xs))) [ true ↦ (all.0, all-filter P p xs all.1) | false ↦ all-filter P p xs all.1 ]

  all-insert : (P : K → Type 0) (k : K) (xs : List K) → P k → AllByRecursion P xs → AllByRecursion P (insert_key R xs k)
  all-insert P k [] here all = (here, tt)
  all-insert P k (x ∷ xs) here all =
      elim (R k x) as (λ v. AllByRecursion P (match_ordering v (k ∷ x ∷ xs) (x ∷ xs) (x ∷ insert_key R xs k))) [ Less ↦ (here, all) | Equal ↦ all | Greater ↦ (all.0, all-insert P k xs here all.1) ]

  -- what is below the first of a list in order is below all of it
  below-all : (k x : K) (xs : List K) → R k x ≡ Less → AllByRecursion (λ y. R x y ≡ Less) xs → AllByRecursion (λ y. R k y ≡ Less) xs
  below-all k x [] less all = tt
  below-all k x (y ∷ ys) less all = (o.trans k x y less all.0, below-all k x ys less all.1)

  -- and goes before it
  insert-below : (k : K) (xs : List K) → AllByRecursion (λ y. R k y ≡ Less) xs → insert_key R xs k ≡ k ∷ xs
  insert-below k [] all = refl
  insert-below k (x ∷ xs) all = rw all.0 refl

  above : (k x : K) → R k x ≡ Greater → R x k ≡ Less
  above k x more = o.antisymm x k ∙ ap ordering_reverse more

  sorted-insert-by : (k x : K) (xs : List K) (v : Ordering) → R k x ≡ v → IsStrictlySortedBy R (x ∷ xs) → IsStrictlySortedBy R (insert_key R xs k) → IsStrictlySortedBy R (match_ordering v (k ∷ x ∷ xs) (x ∷ xs) (x ∷ insert_key R xs k))
  unfolding IsStrictlySortedBy
  sorted-insert-by k x xs Less is up further = ((is, below-all k x xs is up.0), up)
  sorted-insert-by k x xs Equal is up further = up
  sorted-insert-by k x xs Greater is up further = (all-insert (λ y. R x y ≡ Less) k xs (above k x is) up.0, further)

  pub sorted-insert : (k : K) (xs : List K) → IsStrictlySortedBy R xs → IsStrictlySortedBy R (insert_key R xs k)
  unfolding IsStrictlySortedBy
  sorted-insert k [] up = (tt, tt)
  sorted-insert k (x ∷ xs) up = sorted-insert-by k x xs (R k x) refl up (sorted-insert k xs up.1)

  -- what passes a filter goes to the same place of what passes it
  filter-insert-by : (p : K → Bool) (k x : K) (xs : List K) (v : Ordering) → R k x ≡ v → p k ≡ true → (v ≡ Equal → p x ≡ true) → IsStrictlySortedBy R (x ∷ xs) → filter p (insert_key R xs k) ≡ insert_key R (filter p xs) k → filter p (match_ordering v (k ∷ x ∷ xs) (x ∷ xs) (x ∷ insert_key R xs k)) ≡ insert_key R (filter p (x ∷ xs)) k
  unfolding IsStrictlySortedBy
  filter-insert-by p k x xs Less is passes same up further =
      rw passes (sym (insert-below k (filter p (x ∷ xs)) (all-filter (λ y. R k y ≡ Less) p (x ∷ xs) (is, below-all k x xs is up.0))))
  filter-insert-by p k x xs Equal is passes same up further = rw (same refl, is) refl
  filter-insert-by p k x xs Greater is passes same up further =
      elim (cases_Bool (p x)) [ inl yes_ ↦ rw (yes_, is) (ap (λ ys. x ∷ ys) further) | inr no_ ↦ rw no_ further ]

  pub filter-insert : (p : K → Bool) (k : K) (xs : List K) → p k ≡ true → ((x : K) → R k x ≡ Equal → p x ≡ true) → IsStrictlySortedBy R xs → filter p (insert_key R xs k) ≡ insert_key R (filter p xs) k
  unfolding IsStrictlySortedBy
  filter-insert p k [] passes same up = rw passes refl
  filter-insert p k (x ∷ xs) passes same up =
      filter-insert-by p k x xs (R k x) refl passes (same x) up (filter-insert p k xs passes same up.1)

  -- a list in order stays so without one of its elements
  all-remove : (P : K → Type 0) (p : K → Bool) (xs : List K) → AllByRecursion P xs → AllByRecursion P (remove_key p xs)
  all-remove P p [] all = tt
  all-remove P p (x ∷ xs) all = elim (p x) as (λ v. AllByRecursion P (cond v xs (x ∷ remove_key p xs))) [ true ↦ all.1 | false ↦ (all.0, all-remove P p xs all.1) ]

  pub sorted-remove : (p : K → Bool) (xs : List K) → IsStrictlySortedBy R xs → IsStrictlySortedBy R (remove_key p xs)
  unfolding IsStrictlySortedBy
  sorted-remove p [] up = tt
  sorted-remove p (x ∷ xs) up =
      elim (p x) as (λ v. IsStrictlySortedBy R (cond v xs (x ∷ remove_key p xs))) [ true ↦ up.1 | false ↦ (all-remove (λ y. R x y ≡ Less) p xs up.0, sorted-remove p xs up.1) ]
