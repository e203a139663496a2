-- The list of the values below a serial number.
use Rattle.std.proofs.Common.{is_some, count_by, ◌≡◌, ◌≢◌, ◌⊎◌, ℕ, zero, suc, ◌+◌, ◌<◌, ◌≤◌, cond, List, [], ◌∷◌, ◌++◌, length, set, slice_get, Option, Some, None, refl, sym, ap, ◌∙◌, inl, inr, arith, length-append}
use Rattle.std.specs.Prelude.{option_and_then}
use Rattle.std.proofs.lemmas.Bool.{cases_eq, cases_lt}
use Rattle.std.proofs.lemmas.List.{set-append_left}
use Rattle.std.proofs.lemmas.Option.{none-some, same_Some, slice_get_past}
use Rattle.std.proofs.lemmas.List.Sums.{sum_by-cons}
use Rattle.std.proofs.Math.Seq.{set-append_seam}
use Rattle.usb_device_tables.specs.History.{value_at, values_below}

-- nothing, or something
pub cases_Option : {X : Type 0} (o : Option X) → (o ≡ None) ⊎ ((x : X) × (o ≡ Some x))
cases_Option None = inl refl
cases_Option (Some x) = inr (x, refl)

-- an element more at the end of a list
pub before-append : {X : Type 0} (xs : List X) (x : X) (k n : ℕ) → length xs ≡ n → k < n → slice_get (xs ++ x ∷ []) k ≡ slice_get xs k
before-append [] x k n len below = absurd (omega (arith, len))
before-append (y ∷ ys) x zero n len below = refl
before-append (y ∷ ys) x (suc k) n len below = before-append ys x k (length ys) refl (omega (arith, len))

pub at-end : {X : Type 0} (xs : List X) (x : X) → slice_get (xs ++ x ∷ []) (length xs) ≡ Some x
at-end [] x = refl
at-end (y ∷ ys) x = at-end ys x

module _ {T : Type 0} where
  pub length-below : (f : ℕ → Option T) (n : ℕ) → length (values_below f n) ≡ n
  length-below f zero = refl
  length-below f (suc n) = length-append (values_below f n) (f n ∷ []) ∙ omega (arith, length-below f n)

  pub slice_get-below : (f : ℕ → Option T) (n k : ℕ) → k < n → slice_get (values_below f n) k ≡ Some (f k)
  slice_get-below f zero k below = absurd (omega arith)
  slice_get-below f (suc n) k below =
      elim (cases_eq k n) [
        | inl same ↦
            let len = length-below f n in
            let end = at-end (values_below f n) (f n) in
            rw same (rw len at end)
        | inr other ↦ before-append (values_below f n) (f n) k n (length-below f n) (omega (arith, other)) ∙ slice_get-below f n k (omega (arith, other))
      ]

  -- no serial number from the next on has a value
  abbrev pub IsBelow : (ℕ → Option T) → ℕ → Type 0
  IsBelow at next = (serial : ℕ) (value : T) → at serial ≡ Some value → serial < next

  pub value-below : (f : ℕ → Option T) (next serial : ℕ) → IsBelow f next → value_at (values_below f next) serial ≡ f serial
  value-below f next serial below =
      elim (cases_lt serial next) [
        | inl lower ↦ ap (option_and_then (λ (v : Option T). v)) (slice_get-below f next serial lower)
        | inr past ↦
            let none : f serial ≡ None = elim (cases_Option (f serial)) [ inl nothing ↦ nothing | inr some ↦ absurd (omega (arith, past, below serial some.0 some.1)) ] in
            ap (option_and_then (λ (v : Option T). v)) (slice_get_past (values_below f next) serial (omega (arith, past, length-below f next))) ∙ sym none
      ]

  pub values-same : (f g : ℕ → Option T) (n : ℕ) → ((k : ℕ) → k < n → g k ≡ f k) → values_below g n ≡ values_below f n
  values-same f g zero same = refl
  values-same f g (suc n) same = rw (values-same f g n (λ k below. same k (omega (arith, below))), same n (omega arith)) refl

  set-past : (xs : List (Option T)) (i : ℕ) (x : Option T) → length xs ≤ i → set xs i x ≡ xs
  set-past [] i x past = refl
  set-past (y ∷ ys) zero x past = absurd (omega (arith, past))
  set-past (y ∷ ys) (suc i) x past = ap (λ zs. y ∷ zs) (set-past ys i x (omega (arith, past)))

  set-end : (xs : List (Option T)) (i : ℕ) (x y : Option T) → length xs ≡ i → set (xs ++ x ∷ []) i y ≡ xs ++ y ∷ []
  set-end xs i x y len = rw (sym len) (set-append_seam xs x [] y)

  -- one serial number has another value
  pub values-set : (f g : ℕ → Option T) (n s : ℕ) (v : Option T) → g s ≡ v → ((k : ℕ) → k ≢ s → g k ≡ f k) → values_below g n ≡ set (values_below f n) s v
  values-set f g zero s v here others = refl
  values-set f g (suc n) s v here others =
      let len = length-below f n in
      elim (cases_eq n s) [
        | inl same ↦
            let below : values_below g n ≡ values_below f n = values-same f g n (λ k lower. others k (λ z. absurd (omega (arith, lower, z, same)))) in
            let at : g n ≡ v = ap g same ∙ here in
            rw (below, at) (sym (set-end (values_below f n) s (f n) v (len ∙ same)))
        | inr other ↦
            let before = values-set f g n s v here others in
            let at = others n other in
            elim (cases_lt s n) [
              | inl inside ↦ rw (before, at) (sym (set-append_left (values_below f n) (f n ∷ []) s v (omega (arith, inside, len))))
              | inr past ↦
                  let shorter : set (values_below f n) s v ≡ values_below f n = set-past (values_below f n) s v (omega (arith, past, len)) in
                  let longer : set (values_below f n ++ f n ∷ []) s v ≡ values_below f n ++ f n ∷ [] = set-past (values_below f n ++ f n ∷ []) s v (omega (arith, past, other, len, length-append (values_below f n) (f n ∷ []))) in
                  rw (before, shorter, at) (sym longer)
            ]
      ]

  pub count-some_more : (xs : List (Option T)) (i : ℕ) (x : T) → slice_get xs i ≡ Some None → count_by is_some (set xs i (Some x)) ≡ count_by is_some xs + 1
  count-some_more [] i x at = absurd (none-some {A = Option T} None at)
  count-some_more (y ∷ ys) zero x at =
      let none : y ≡ None = same_Some y None at in
      let new : count_by is_some (Some x ∷ ys) ≡ 1 + count_by is_some ys = sum_by-cons (λ (o : Option T). cond (is_some o) 1 0) (Some x) ys in
      let old : count_by is_some (None ∷ ys) ≡ 0 + count_by is_some ys = sum_by-cons (λ (o : Option T). cond (is_some o) 1 0) None ys in
      rw none (omega (arith, new, old))
  count-some_more (y ∷ ys) (suc i) x at =
      let IH = count-some_more ys i x at in
      let new = sum_by-cons (λ (o : Option T). cond (is_some o) 1 0) y (set ys i (Some x)) in
      let old = sum_by-cons (λ (o : Option T). cond (is_some o) 1 0) y ys in
      omega (arith, IH, new, old)
