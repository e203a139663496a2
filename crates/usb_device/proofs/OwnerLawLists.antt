-- Tests of the elements of a list with their places.
use Rattle.std.proofs.Common.{ℕ, zero, suc, arith, ◌≡◌, ◌+◌, Bool, true, false, List, [], ◌∷◌, ◌++◌, length, set, slice_get, Option, Some, None, inl, inr, refl, sym, ◌∙◌, ap}
use Rattle.std.specs.Prelude.{◌||◌}
use Rattle.std.specs.List.{list_any, enumerate_from}
use Rattle.std.proofs.lemmas.Bool.{cases_Bool}
use Rattle.std.proofs.lemmas.Option.{none-some, same_Some}

-- an element that passes, and its place
pub record FoundAt {X : Type 0} (p : ℕ × X → Bool) (m : ℕ) (xs : List X) : Type 0 where
  pub place : ℕ
  pub item : X
  pub at : slice_get xs place ≡ Some item
  pub passes : p (m + place, item) ≡ true

pub any-found : {X : Type 0} (p : ℕ × X → Bool) (m : ℕ) (xs : List X) → list_any p (enumerate_from m xs) ≡ true → FoundAt p m xs
any-found p m [] is = absurd (cc)
any-found p m (x ∷ xs) is =
    let z : m + 0 ≡ m = omega arith in
    elim (cases_Bool (p (m, x))) [
      | inl here ↦ record { place = 0; item = x; at = refl; passes = rw z here }
      | inr no_ ↦
          let rest = any-found p (m + 1) xs (rw no_ at is) in
          let e : m + suc rest.place ≡ (m + 1) + rest.place = omega arith in
          record { place = suc rest.place; item = rest.item; at = rest.at; passes = rw e rest.passes }
    ]

pub or_true : (b : Bool) → (b || true) ≡ true
or_true true = refl
or_true false = refl

pub any-at : {X : Type 0} (p : ℕ × X → Bool) (m : ℕ) (xs : List X) (i : ℕ) (x : X) → slice_get xs i ≡ Some x → p (m + i, x) ≡ true → list_any p (enumerate_from m xs) ≡ true
any-at p m [] i x at passes = absurd (none-some x at)
any-at p m (y ∷ ys) zero x at passes =
    let z : m + 0 ≡ m = omega arith in
    let here : p (m, y) ≡ true = ap (λ v. p (m, v)) (same_Some y x at) ∙ rw z at passes in
    rw here refl
any-at p m (y ∷ ys) (suc i) x at passes =
    let e : m + suc i ≡ (m + 1) + i = omega arith in
    let IH = any-at p (m + 1) ys i x at (rw e at passes) in
    rw IH (or_true (p (m, y)))

-- tests that agree on the elements of a list
pub any-alike : {X : Type 0} (p q : ℕ × X → Bool) (m : ℕ) (xs : List X) → ((k : ℕ) (x : X) → slice_get xs k ≡ Some x → p (m + k, x) ≡ q (m + k, x)) → list_any p (enumerate_from m xs) ≡ list_any q (enumerate_from m xs)
any-alike p q m [] each = refl
any-alike p q m (x ∷ xs) each =
    let z : m + 0 ≡ m = omega arith in
    let here : p (m, x) ≡ q (m, x) = rw z at (each 0 x refl) in
    let IH = any-alike p q (m + 1) xs (λ k y at. let e : (m + 1) + k ≡ m + suc k = omega arith in rw e (each (suc k) y at)) in
    rw (here, IH) refl

-- an element is replaced by one that a test cannot tell from it
pub any-set : {X : Type 0} (p : ℕ × X → Bool) (m : ℕ) (xs : List X) (k : ℕ) (x y : X) → slice_get xs k ≡ Some x → p (m + k, y) ≡ p (m + k, x) → list_any p (enumerate_from m (set xs k y)) ≡ list_any p (enumerate_from m xs)
any-set p m [] k x y at same = refl
any-set p m (z ∷ zs) zero x y at same =
    let e : m + 0 ≡ m = omega arith in
    let here : p (m, y) ≡ p (m, z) = rw e at same ∙ ap (λ v. p (m, v)) (sym (same_Some z x at)) in
    rw here refl
any-set p m (z ∷ zs) (suc k) x y at same =
    let e : m + suc k ≡ (m + 1) + k = omega arith in
    rw (any-set p (m + 1) zs k x y at (rw e at same)) refl

pub any-put : {X : Type 0} (p : X → Bool) (xs : List X) (k : ℕ) (x y : X) → slice_get xs k ≡ Some x → p y ≡ p x → list_any p (set xs k y) ≡ list_any p xs
any-put p [] k x y at same = refl
any-put p (z ∷ zs) zero x y at same = let here : p y ≡ p z = same ∙ ap p (sym (same_Some z x at)) in rw here refl
any-put p (z ∷ zs) (suc k) x y at same = rw (any-put p zs k x y at same) refl

-- an element that stands in a list
pub any-one : {X : Type 0} (p : X → Bool) (xs : List X) (k : ℕ) (x : X) → slice_get xs k ≡ Some x → p x ≡ true → list_any p xs ≡ true
any-one p [] k x at passes = absurd (none-some x at)
any-one p (z ∷ zs) zero x at passes = let here : p z ≡ true = ap p (same_Some z x at) ∙ passes in rw here refl
any-one p (z ∷ zs) (suc k) x at passes = rw (any-one p zs k x at passes) (or_true (p z))

-- an element that does not pass at the end of a list
pub any-push : {X : Type 0} (p : X → Bool) (xs : List X) (y : X) → p y ≡ false → list_any p (xs ++ y ∷ []) ≡ list_any p xs
any-push p [] y no_ = rw no_ refl
any-push p (x ∷ xs) y no_ = rw (any-push p xs y no_) refl

pub any-push_at : {X : Type 0} (p : ℕ × X → Bool) (m : ℕ) (xs : List X) (y : X) → p (m + length xs, y) ≡ false → list_any p (enumerate_from m (xs ++ y ∷ [])) ≡ list_any p (enumerate_from m xs)
any-push_at p m [] y no_ =
    let e : m + 0 ≡ m = omega arith in
    let here : p (m, y) ≡ false = rw e at no_ in
    rw here refl
any-push_at p m (x ∷ xs) y no_ =
    let e : m + length (x ∷ xs) ≡ (m + 1) + length xs = omega arith in
    rw (any-push_at p (m + 1) xs y (rw e at no_)) refl

-- an element that does not pass goes
pub any-taken : {X : Type 0} (p : ℕ × Option X → Bool) (m : ℕ) (xs : List (Option X)) (k : ℕ) → ((o : Option X) → slice_get xs k ≡ Some o → p (m + k, o) ≡ false) → p (m + k, None) ≡ false → list_any p (enumerate_from m (set xs k None)) ≡ list_any p (enumerate_from m xs)
any-taken p m [] k dead none = refl
any-taken p m (z ∷ zs) zero dead none =
    let e : m + 0 ≡ m = omega arith in
    let gone : p (m, None) ≡ false = rw e at none in
    let was : p (m, z) ≡ false = rw e at (dead z refl) in
    let here : p (m, None) ≡ p (m, z) = gone ∙ sym was in
    rw here refl
any-taken p m (z ∷ zs) (suc k) dead none =
    let e : m + suc k ≡ (m + 1) + k = omega arith in
    rw (any-taken p (m + 1) zs k (λ o at. rw e at (dead o at)) (rw e at none)) refl
