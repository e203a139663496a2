-- The numbers of those elements of a list that pass a test, counted from k on.
use Rattle.std.proofs.Common.{◌≡◌, ◌≢◌, ◌∙◌, ℕ, ◌+◌, ◌<◌, ◌≤◌, suc, zero, arith, Bool, true, false, cond, List, [], ◌∷◌, ◌++◌, length, drop, map, Some, refl, ap, sym, slice_get, inl, inr}
use Rattle.std.specs.Prelude.{filter, IsSome, ◌==◌, ◌&&◌, not}
use Rattle.std.specs.List.{enumerate_from}
use Rattle.std.proofs.lemmas.List.{append-nil}
use Rattle.std.proofs.lemmas.Option.{none-some, same_Some}
use Rattle.std.proofs.lemmas.Bool.{cases_Bool, cases_eq, ne_eqb, eq-eqb}

abbrev pub numbers : {X : Type 0} → ((ℕ × X) → Bool) → ℕ → List X → List ℕ
numbers {X} p k xs = map {A = ℕ × X} (λ x. x.0) (filter p (enumerate_from k xs))

-- all numbers but one
abbrev pub without_number : ℕ → List ℕ → List ℕ
without_number t ns = filter (λ u. not (u == t)) ns

numbers-pass : {X : Type 0} (p : (ℕ × X) → Bool) (k : ℕ) (x : X) (xs : List X) → p (k, x) ≡ true → numbers p k (x ∷ xs) ≡ k ∷ numbers p (k + 1) xs
numbers-pass p k x xs passes = rw passes refl

numbers-fail : {X : Type 0} (p : (ℕ × X) → Bool) (k : ℕ) (x : X) (xs : List X) → p (k, x) ≡ false → numbers p k (x ∷ xs) ≡ numbers p (k + 1) xs
numbers-fail p k x xs fails = rw fails refl

without-same : (t : ℕ) (ns : List ℕ) → without_number t (t ∷ ns) ≡ without_number t ns
without-same t ns = rw (eq-eqb t t refl) refl

without-other : (t u : ℕ) (ns : List ℕ) → u ≢ t → without_number t (u ∷ ns) ≡ u ∷ without_number t ns
without-other t u ns apart = rw (ne_eqb u t apart) refl

-- what is said of the numbers from k on, for those from k + 1 on
abbrev Along : {X : Type 0} → ((ℕ × X) → Type 0) → ℕ → List X → Type 0
Along {X} P k xs = (i : ℕ) (x : X) → slice_get xs i ≡ Some x → P (k + i, x)

along-head : {X : Type 0} (P : (ℕ × X) → Type 0) (k : ℕ) (x : X) (xs : List X) → Along P k (x ∷ xs) → P (k, x)
along-head P k x xs all = let z : k + 0 ≡ k = omega arith in rw z at (all 0 x refl)

along-tail : {X : Type 0} (P : (ℕ × X) → Type 0) (k : ℕ) (x : X) (xs : List X) → Along P k (x ∷ xs) → Along P (k + 1) xs
along-tail P k x xs all = λ i y at. let z : (k + 1) + i ≡ k + suc i = omega arith in rw z (all (suc i) y at)

-- two tests that agree
pub numbers-same : {X : Type 0} (p q : (ℕ × X) → Bool) (k : ℕ) (xs : List X) → ((i : ℕ) (x : X) → slice_get xs i ≡ Some x → q (k + i, x) ≡ p (k + i, x)) → numbers q k xs ≡ numbers p k xs
numbers-same p q k [] same = refl
numbers-same {X} p q k (x ∷ xs) same =
    let P : (ℕ × X) → Type 0 = (λ (y : ℕ × X). q y ≡ p y) in
    let here : q (k, x) ≡ p (k, x) = along-head P k x xs same in
    let rest = numbers-same p q (k + 1) xs (along-tail P k x xs same) in
    elim (cases_Bool (p (k, x))) [
      | inl passes ↦ numbers-pass q k x xs (here ∙ passes) ∙ (ap (λ (ns : List ℕ). k ∷ ns) rest ∙ sym (numbers-pass p k x xs passes))
      | inr fails ↦ numbers-fail q k x xs (here ∙ fails) ∙ (rest ∙ sym (numbers-fail p k x xs fails))
    ]

-- a test that nothing passes
pub numbers-none : {X : Type 0} (p : (ℕ × X) → Bool) (k : ℕ) (xs : List X) → ((i : ℕ) (x : X) → slice_get xs i ≡ Some x → p (k + i, x) ≡ false) → numbers p k xs ≡ []
numbers-none p k [] none = refl
numbers-none {X} p k (x ∷ xs) none =
    let P : (ℕ × X) → Type 0 = (λ (y : ℕ × X). p y ≡ false) in
    numbers-fail p k x xs (along-head P k x xs none) ∙ numbers-none p (k + 1) xs (along-tail P k x xs none)

-- a test that one number more fails
pub numbers-without : {X : Type 0} (p q : (ℕ × X) → Bool) (t k : ℕ) (xs : List X) → ((i : ℕ) (x : X) → slice_get xs i ≡ Some x → q (k + i, x) ≡ (not (k + i == t) && p (k + i, x))) → numbers q k xs ≡ without_number t (numbers p k xs)
numbers-without p q t k [] same = refl
numbers-without {X} p q t k (x ∷ xs) same =
    let P : (ℕ × X) → Type 0 = (λ (y : ℕ × X). q y ≡ (not (y.0 == t) && p y)) in
    let here : q (k, x) ≡ (not (k == t) && p (k, x)) = along-head P k x xs same in
    let rest = numbers-without p q t (k + 1) xs (along-tail P k x xs same) in
    elim (cases_Bool (p (k, x))) [
      | inr fails ↦ numbers-fail q k x xs (here ∙ neither fails) ∙ (rest ∙ ap (without_number t) (sym (numbers-fail p k x xs fails)))
      | inl passes ↦
          elim (cases_eq k t) [
            | inl is ↦ numbers-fail q k x xs (here ∙ rw (eq-eqb k t is) refl) ∙ (rest ∙ (gone is ∙ ap (without_number t) (sym (numbers-pass p k x xs passes))))
            | inr apart ↦ numbers-pass q k x xs (here ∙ rw (ne_eqb k t apart, passes) refl) ∙ (ap (λ (ns : List ℕ). k ∷ ns) rest ∙ (sym (without-other t k (numbers p (k + 1) xs) apart) ∙ ap (without_number t) (sym (numbers-pass p k x xs passes))))
          ]
    ]
  where
    neither : p (k, x) ≡ false → (not (k == t) && p (k, x)) ≡ false
    neither fails = rw fails (elim (k == t) as (λ v. (not v && false) ≡ false) [ true ↦ refl | false ↦ refl ])

    gone : k ≡ t → without_number t (numbers p (k + 1) xs) ≡ without_number t (k ∷ numbers p (k + 1) xs)
    gone is = rw is (sym (without-same t (numbers p (t + 1) xs)))

-- a number below all of them
numbers-above : {X : Type 0} (p : (ℕ × X) → Bool) (t k : ℕ) (xs : List X) → t < k → without_number t (numbers p k xs) ≡ numbers p k xs
numbers-above p t k [] below = refl
numbers-above p t k (x ∷ xs) below =
    let apart : k ≢ t = λ same. omega arith in
    let rest = numbers-above p t (k + 1) xs (omega arith) in
    elim (cases_Bool (p (k, x))) [
      | inl passes ↦ rw (numbers-pass p k x xs passes) (without-other t k (numbers p (k + 1) xs) apart ∙ ap (λ (ns : List ℕ). k ∷ ns) rest)
      | inr fails ↦ rw (numbers-fail p k x xs fails) rest
    ]

-- without the first one, the others stay
pub numbers-first : {X : Type 0} (p : (ℕ × X) → Bool) (t k : ℕ) (xs : List X) → slice_get (numbers p k xs) 0 ≡ Some t → without_number t (numbers p k xs) ≡ drop 1 (numbers p k xs)
numbers-first p t k [] first = absurd (none-some t first)
numbers-first p t k (x ∷ xs) first =
    elim (cases_Bool (p (k, x))) [
      | inl passes ↦
          let is : k ≡ t = same_Some k t (rw (numbers-pass p k x xs passes) at first) in
          rw (numbers-pass p k x xs passes) (rw is (without-same t (numbers p (t + 1) xs) ∙ numbers-above p t (t + 1) xs (omega arith)))
      | inr fails ↦ rw (numbers-fail p k x xs fails) (numbers-first p t (k + 1) xs (rw (numbers-fail p k x xs fails) at first))
    ]

-- one more element
pub numbers-push : {X : Type 0} (p : (ℕ × X) → Bool) (k : ℕ) (xs : List X) (y : X) → numbers p k (xs ++ y ∷ []) ≡ numbers p k xs ++ cond (p (k + length xs, y)) ((k + length xs) ∷ []) []
numbers-push p k [] y =
    let z : k + 0 ≡ k = omega arith in
    rw z (elim (cases_Bool (p (k, y))) [ inl passes ↦ rw passes refl | inr fails ↦ rw fails refl ])
numbers-push p k (x ∷ xs) y =
    let z : k + length (x ∷ xs) ≡ (k + 1) + length xs = omega arith in
    let rest = numbers-push p (k + 1) xs y in
    rw z (elim (cases_Bool (p (k, x))) [ inl passes ↦ rw passes (ap (λ (ns : List ℕ). k ∷ ns) rest) | inr fails ↦ rw fails rest ])

-- one more element that fails the test
pub numbers-push_fails : {X : Type 0} (p : (ℕ × X) → Bool) (xs : List X) (y : X) → p (length xs, y) ≡ false → numbers p 0 (xs ++ y ∷ []) ≡ numbers p 0 xs
numbers-push_fails p xs y fails =
    let z : 0 + length xs ≡ length xs = omega arith in
    numbers-push p 0 xs y ∙ rw (z, fails) (append-nil (numbers p 0 xs))

-- where an element passes there is a first one
pub numbers-some : {X : Type 0} (p : (ℕ × X) → Bool) (k i : ℕ) (xs : List X) (x : X) → slice_get xs i ≡ Some x → p (k + i, x) ≡ true → IsSome (slice_get (numbers p k xs) 0)
numbers-some p k i [] x at passes = absurd (none-some x at)
numbers-some p k zero (y ∷ xs) x at passes =
    let z : k + 0 ≡ k = omega arith in
    rw (numbers-pass p k y xs (ap (λ w. p (k, w)) (same_Some y x at) ∙ (rw z at passes))) refl
numbers-some p k (suc i) (y ∷ xs) x at passes =
    let z : (k + 1) + i ≡ k + suc i = omega arith in
    elim (cases_Bool (p (k, y))) [
      | inl here ↦ rw (numbers-pass p k y xs here) refl
      | inr fails ↦ rw (numbers-fail p k y xs fails) (numbers-some p (k + 1) i xs x at (rw z passes))
    ]

pub length-numbers : {X : Type 0} (p : (ℕ × X) → Bool) (k : ℕ) (xs : List X) → length (numbers p k xs) ≤ length xs
length-numbers p k [] = omega arith
length-numbers p k (x ∷ xs) =
    let rest = length-numbers p (k + 1) xs in
    elim (cases_Bool (p (k, x))) [
      | inl passes ↦ rw (numbers-pass p k x xs passes) (omega arith)
      | inr fails ↦ rw (numbers-fail p k x xs fails) (omega arith)
    ]

-- a test that more pass
pub numbers-more : {X : Type 0} (p q : (ℕ × X) → Bool) (k : ℕ) (xs : List X) → ((i : ℕ) (x : X) → slice_get xs i ≡ Some x → p (k + i, x) ≡ true → q (k + i, x) ≡ true) → length (numbers p k xs) ≤ length (numbers q k xs)
numbers-more p q k [] more = omega arith
numbers-more {X} p q k (x ∷ xs) more =
    let P : (ℕ × X) → Type 0 = (λ (y : ℕ × X). p y ≡ true → q y ≡ true) in
    let here : p (k, x) ≡ true → q (k, x) ≡ true = along-head P k x xs more in
    let rest = numbers-more p q (k + 1) xs (along-tail P k x xs more) in
    elim (cases_Bool (p (k, x))) [
      | inl passes ↦ rw (numbers-pass p k x xs passes, numbers-pass q k x xs (here passes)) (omega arith)
      | inr fails ↦
          rw (numbers-fail p k x xs fails)
          (elim (cases_Bool (q (k, x))) [
            | inl passes ↦ rw (numbers-pass q k x xs passes) (omega arith)
            | inr never ↦ rw (numbers-fail q k x xs never) rest
          ])
    ]

-- a number that stood there is one less
pub length-without : {X : Type 0} (p : (ℕ × X) → Bool) (k i : ℕ) (xs : List X) (x : X) → slice_get xs i ≡ Some x → p (k + i, x) ≡ true → length (without_number (k + i) (numbers p k xs)) + 1 ≡ length (numbers p k xs)
length-without p k i [] x at passes = absurd (none-some x at)
length-without p k zero (y ∷ xs) x at passes =
    let z : k + 0 ≡ k = omega arith in
    let here : p (k, y) ≡ true = ap (λ w. p (k, w)) (same_Some y x at) ∙ (rw z at passes) in
    rw (z, numbers-pass p k y xs here, without-same k (numbers p (k + 1) xs), numbers-above p k (k + 1) xs (omega arith)) (omega arith)
length-without p k (suc i) (y ∷ xs) x at passes =
    let z : (k + 1) + i ≡ k + suc i = omega arith in
    let apart : k ≢ k + suc i = λ same. omega arith in
    let rest : length (without_number (k + suc i) (numbers p (k + 1) xs)) + 1 ≡ length (numbers p (k + 1) xs) = rw z at (length-without p (k + 1) i xs x at (rw z passes)) in
    elim (cases_Bool (p (k, y))) [
      | inl here ↦ rw (numbers-pass p k y xs here, without-other (k + suc i) k (numbers p (k + 1) xs) apart) (omega arith)
      | inr fails ↦ rw (numbers-fail p k y xs fails) rest
    ]

-- what is known of the first one
pub record IsFirst {X : Type 0} (p : (ℕ × X) → Bool) (k : ℕ) (xs : List X) (t : ℕ) : Type 0 where
  pub i : ℕ
  pub x : X
  pub number : t ≡ k + i
  pub at : slice_get xs i ≡ Some x
  pub passes : p (t, x) ≡ true

pub numbers-is_first : {X : Type 0} (p : (ℕ × X) → Bool) (t k : ℕ) (xs : List X) → slice_get (numbers p k xs) 0 ≡ Some t → IsFirst p k xs t
numbers-is_first p t k [] first = absurd (none-some t first)
numbers-is_first p t k (x ∷ xs) first =
    elim (cases_Bool (p (k, x))) [
      | inl passes ↦
          let is : k ≡ t = same_Some k t (rw (numbers-pass p k x xs passes) at first) in
          record { i = 0; x = x; number = omega arith; at = refl; passes = rw is at passes }
      | inr fails ↦
          let h = numbers-is_first p t (k + 1) xs (rw (numbers-fail p k x xs fails) at first) in
          record { i = suc h.i; x = h.x; number = omega (arith, h.number); at = h.at; passes = h.passes }
    ]

-- and it is the least
pub numbers-least : {X : Type 0} (p : (ℕ × X) → Bool) (t k i : ℕ) (xs : List X) (x : X) → slice_get (numbers p k xs) 0 ≡ Some t → slice_get xs i ≡ Some x → p (k + i, x) ≡ true → t ≤ k + i
numbers-least p t k i [] x first at passes = absurd (none-some x at)
numbers-least p t k zero (y ∷ xs) x first at passes =
    let z : k + 0 ≡ k = omega arith in
    let here : p (k, y) ≡ true = ap (λ w. p (k, w)) (same_Some y x at) ∙ (rw z at passes) in
    let is : k ≡ t = same_Some k t (rw (numbers-pass p k y xs here) at first) in
    omega arith
numbers-least p t k (suc i) (y ∷ xs) x first at passes =
    elim (cases_Bool (p (k, y))) [
      | inl here ↦ let is : k ≡ t = same_Some k t (rw (numbers-pass p k y xs here) at first) in omega arith
      | inr fails ↦
          let z : (k + 1) + i ≡ k + suc i = omega arith in
          let rest = numbers-least p t (k + 1) i xs x (rw (numbers-fail p k y xs fails) at first) at (rw z passes) in
          omega arith
    ]
