-- What is found by a serial number when a list of values changes.
use Rattle.std.proofs.Common.{◌≡◌, ◌≢◌, ◌⊎◌, inl, inr, ℕ, zero, suc, ◌-◌, ◌<◌, ◌≤◌, arith, length-append, cond, is_some, List, [], ◌∷◌, ◌++◌, length, map, set, take, Option, Some, None, refl, sym, ap, ◌∙◌}
use Rattle.std.specs.Prelude.{IsSome}
use Rattle.std.specs.Option.{option_map}
use Rattle.std.proofs.lemmas.Option.{none-some, same_Some}
use Rattle.std.proofs.lemmas.List.{take_all, take-append-le}
use Rattle.std.proofs.lemmas.List.Sums.{sum_by-cons}
use Rattle.usb_device_tables.specs.History.{value_at, live_count}

-- a list that is not empty, by its last element
pub last-of : {X : Type 0} (xs : List X) → 0 < length xs → (ys : List X) × (y : X) × (xs ≡ ys ++ y ∷ [])
last-of [] some = absurd (omega (arith, some))
last-of (x ∷ []) some = ([], x, refl)
last-of (x ∷ y ∷ ys) some = let r = last-of (y ∷ ys) (omega arith) in (x ∷ r.0, r.1, ap (λ zs. x ∷ zs) r.2)

-- the others
pub take-others : {X : Type 0} (xs : List X) (x : X) → take (length (xs ++ x ∷ []) - 1) (xs ++ x ∷ []) ≡ xs
take-others xs x =
    let n : length (xs ++ x ∷ []) - 1 ≡ length xs = omega (arith, length-append xs (x ∷ [])) in
    rw n (take-append-le (length xs) xs (x ∷ []) (omega arith) ∙ take_all (length xs) xs (omega arith))

module _ {X : Type 0} where
  -- what is there
  pub some-of : (o : Option X) → IsSome o → (x : X) × (o ≡ Some x)
  some-of None some = absurd (cc)
  some-of (Some x) some = (x, refl)

  pub is-some : (o : Option X) (x : X) → o ≡ Some x → IsSome o
  is-some o x at = ap is_some at

  pub value-within : (xs : List (Option X)) (k : ℕ) (x : X) → value_at xs k ≡ Some x → k < length xs
  value-within [] k x at = absurd (none-some x at)
  value-within (y ∷ ys) zero x at = omega arith
  value-within (y ∷ ys) (suc k) x at = omega (arith, value-within ys k x at)

  -- a value is written
  pub value-set_same : (xs : List (Option X)) (k : ℕ) (x : X) (o : Option X) → value_at xs k ≡ Some x → value_at (set xs k o) k ≡ o
  value-set_same [] k x o at = absurd (none-some x at)
  value-set_same (y ∷ ys) zero x o at = refl
  value-set_same (y ∷ ys) (suc k) x o at = value-set_same ys k x o at

  pub value-set_other : (xs : List (Option X)) (k j : ℕ) (o : Option X) → k ≢ j → value_at (set xs k o) j ≡ value_at xs j
  value-set_other [] k j o apart = refl
  value-set_other (y ∷ ys) zero zero o apart = absurd (apart refl)
  value-set_other (y ∷ ys) zero (suc j) o apart = refl
  value-set_other (y ∷ ys) (suc k) zero o apart = refl
  value-set_other (y ∷ ys) (suc k) (suc j) o apart = value-set_other ys k j o (λ z. apart (ap suc z))

  -- that which is there already
  pub set-value_same : (xs : List (Option X)) (k : ℕ) (x : X) → value_at xs k ≡ Some x → set xs k (Some x) ≡ xs
  set-value_same [] k x at = refl
  set-value_same (y ∷ ys) zero x at = ap (λ (z : Option X). z ∷ ys) (sym at)
  set-value_same (y ∷ ys) (suc k) x at = ap (λ zs. y ∷ zs) (set-value_same ys k x at)

  pub set-set : (xs : List (Option X)) (k : ℕ) (o p : Option X) → set (set xs k o) k p ≡ set xs k p
  set-set [] k o p = refl
  set-set (y ∷ ys) zero o p = refl
  set-set (y ∷ ys) (suc k) o p = ap (λ zs. y ∷ zs) (set-set ys k o p)

  -- a value more
  pub value-push : (xs : List (Option X)) (o : Option X) (k : ℕ) (x : X) → value_at xs k ≡ Some x → value_at (xs ++ o ∷ []) k ≡ Some x
  value-push [] o k x at = absurd (none-some x at)
  value-push (y ∷ ys) o zero x at = at
  value-push (y ∷ ys) o (suc k) x at = value-push ys o k x at

  pub value-last : (xs : List (Option X)) (o : Option X) → value_at (xs ++ o ∷ []) (length xs) ≡ o
  value-last [] o = refl
  value-last (y ∷ ys) o = value-last ys o

  pub value-of_last : (xs : List (Option X)) (o : Option X) → value_at (xs ++ o ∷ []) (length (xs ++ o ∷ []) - 1) ≡ o
  value-of_last xs o =
      let n : length (xs ++ o ∷ []) - 1 ≡ length xs = omega (arith, length-append xs (o ∷ [])) in
      ap (value_at (xs ++ o ∷ [])) n ∙ value-last xs o

  pub value-pushed : (xs : List (Option X)) (o : Option X) (k : ℕ) → k ≢ length xs → value_at (xs ++ o ∷ []) k ≡ value_at xs k
  value-pushed [] o zero apart = absurd (apart refl)
  value-pushed [] o (suc k) apart = refl
  value-pushed (y ∷ ys) o zero apart = refl
  value-pushed (y ∷ ys) o (suc k) apart = value-pushed ys o k (λ z. apart (ap suc z))

  -- what is there after a write, or after a push
  pub value-set : (xs : List (Option X)) (k t : ℕ) (o : Option X) (x : X) → value_at (set xs k o) t ≡ Some x → ((t ≡ k) × (o ≡ Some x)) ⊎ ((t ≢ k) × (value_at xs t ≡ Some x))
  value-set [] k t o x at = absurd (none-some x at)
  value-set (y ∷ ys) zero zero o x at = inl (refl, at)
  value-set (y ∷ ys) zero (suc t) o x at = inr (λ z. absurd (omega arith), at)
  value-set (y ∷ ys) (suc k) zero o x at = inr (λ z. absurd (omega arith), at)
  value-set (y ∷ ys) (suc k) (suc t) o x at =
      elim (value-set ys k t o x at) [
        | inl w ↦ inl (ap suc w.0, w.1)
        | inr w ↦ inr (λ z. w.0 (omega arith), w.1)
      ]

  pub value-push_cases : (xs : List (Option X)) (y x : X) (t : ℕ) → value_at (xs ++ Some y ∷ []) t ≡ Some x → ((t ≡ length xs) × (x ≡ y)) ⊎ ((t ≢ length xs) × (value_at xs t ≡ Some x))
  value-push_cases [] y x zero at = inl (refl, sym (same_Some y x at))
  value-push_cases [] y x (suc t) at = absurd (none-some x at)
  value-push_cases (z ∷ zs) y x zero at = inr (λ e. absurd (omega arith), at)
  value-push_cases (z ∷ zs) y x (suc t) at =
      elim (value-push_cases zs y x t at) [
        | inl w ↦ inl (ap suc w.0, w.1)
        | inr w ↦ inr (λ e. w.0 (omega arith), w.1)
      ]

  pub value-past : (xs : List (Option X)) (k : ℕ) → length xs ≤ k → value_at xs k ≡ None
  value-past [] k past = refl
  value-past (y ∷ ys) zero past = absurd (omega (arith, past))
  value-past (y ∷ ys) (suc k) past = value-past ys k (omega (arith, past))

  -- the list of what is there, each changed
  pub value-map : {Y : Type 0} (f : X → Y) (xs : List (Option X)) (k : ℕ) → value_at (map (option_map f) xs) k ≡ option_map f (value_at xs k)
  value-map f [] k = refl
  value-map f (None ∷ ys) zero = refl
  value-map f (Some y ∷ ys) zero = refl
  value-map f (y ∷ ys) (suc k) = value-map f ys k

  pub live-map : {Y : Type 0} (f : X → Y) (xs : List (Option X)) → live_count (map (option_map f) xs) ≡ live_count xs
  live-map f [] = refl
  live-map {Y = Y} f (x ∷ xs) =
      let here : is_some (option_map f x) ≡ is_some x = some-map x in
      let rest = live-map f xs in
      let after = sum_by-cons (λ (o : Option Y). cond (is_some o) 1 0) (option_map f x) (map (option_map f) xs) in
      let before = sum_by-cons (λ (o : Option X). cond (is_some o) 1 0) x xs in
      let one : ◌≡◌ {A = ℕ} (cond (is_some (option_map f x)) 1 0) (cond (is_some x) 1 0) = ap (λ b. cond b 1 0) here in
      omega (arith, rest, after, before, one)
    where
      some-map : (o : Option X) → is_some (option_map f o) ≡ is_some o
      some-map None = refl
      some-map (Some x) = refl

  pub value-put : (xs : List (Option X)) (k t : ℕ) (r x : X) → value_at (set xs k (Some r)) t ≡ Some x → ((t ≡ k) × (x ≡ r)) ⊎ ((t ≢ k) × (value_at xs t ≡ Some x))
  value-put xs k t r x at =
      elim (value-set xs k t (Some r) x at) [
        | inl w ↦ inl (w.0, sym (same_Some r x w.1))
        | inr w ↦ inr w
      ]

  pub value-taken : (xs : List (Option X)) (k t : ℕ) (x : X) → value_at (set xs k None) t ≡ Some x → (t ≢ k) × (value_at xs t ≡ Some x)
  value-taken xs k t x at =
      elim (value-set xs k t None x at) [
        | inl w ↦ absurd (none-some x w.1)
        | inr w ↦ w
      ]

  -- what is there stays there over a write
  pub there-put : (xs : List (Option X)) (k t : ℕ) (r : X) → IsSome (value_at xs t) → IsSome (value_at (set xs k (Some r)) t)
  there-put [] k t r there = there
  there-put (y ∷ ys) zero zero r there = refl
  there-put (y ∷ ys) zero (suc t) r there = there
  there-put (y ∷ ys) (suc k) zero r there = there
  there-put (y ∷ ys) (suc k) (suc t) r there = there-put ys k t r there
