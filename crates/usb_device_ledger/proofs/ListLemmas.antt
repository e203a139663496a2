-- Places and counts of lists.
use Rattle.std.proofs.Common.{ℕ, zero, suc, arith, ◌≡◌, ◌≢◌, ◌<◌, ◌+◌, Bool, true, false, cond, List, [], ◌∷◌, ◌++◌, length, map, set, get_or, slice_get, Option, Some, ◌⊎◌, inl, inr, refl, sym, ◌∙◌, ap, Vec, Global, vec_len, vec_capacity, ◌≤◌, ◌-◌}
use Rattle.std.specs.Prelude.{nat_lt}
use Rattle.std.specs.List.{count_by, list_any, enumerate_from}
use Rattle.std.proofs.lemmas.Bool.{cases_Bool}
use Rattle.std.proofs.lemmas.Option.{none-some, same_Some, slice_get-get_or, get_or_from_slice_get}
use Rattle.std.proofs.lemmas.List.Sums.{sum_by-set, sum_by-cons, sum_by-append}
use Rattle.std.proofs.lemmas.Grind.{common_steps}
use Rattle.usb_device_tables.specs.History.{value_at}
use Rattle.usb_device_ledger.specs.OwnerRows.{one_if}

-- an element after a write
pub slice_get-set : {X : Type 0} (xs : List X) (i t : ℕ) (r x : X) → slice_get (set xs i r) t ≡ Some x → ((t ≡ i) × (x ≡ r)) ⊎ ((t ≢ i) × (slice_get xs t ≡ Some x))
slice_get-set [] i t r x at = absurd (none-some x at)
slice_get-set (y ∷ ys) zero zero r x at = inl (refl, sym (same_Some r x at))
slice_get-set (y ∷ ys) zero (suc t) r x at = inr (λ z. absurd (omega arith), at)
slice_get-set (y ∷ ys) (suc i) zero r x at = inr (λ z. absurd (omega arith), at)
slice_get-set (y ∷ ys) (suc i) (suc t) r x at = elim (slice_get-set ys i t r x at) [ inl w ↦ inl (ap suc w.0, w.1) | inr w ↦ inr (λ z. w.0 (omega arith), w.1) ]

-- an element after a push
pub slice_get-push : {X : Type 0} (xs : List X) (y x : X) (t : ℕ) → slice_get (xs ++ y ∷ []) t ≡ Some x → ((t ≡ length xs) × (x ≡ y)) ⊎ (slice_get xs t ≡ Some x)
slice_get-push [] y x zero at = inl (refl, sym (same_Some y x at))
slice_get-push [] y x (suc t) at = absurd (none-some x at)
slice_get-push (z ∷ zs) y x zero at = inr at
slice_get-push (z ∷ zs) y x (suc t) at = elim (slice_get-push zs y x t at) [ inl w ↦ inl (ap suc w.0, w.1) | inr w ↦ inr w ]

-- the same of what is there
pub slice-value : {X : Type 0} (xs : List (Option X)) (i : ℕ) (x : X) → value_at xs i ≡ Some x → slice_get xs i ≡ Some (Some x)
slice-value [] i x at = absurd (none-some x at)
slice-value (y ∷ ys) zero x at = ap Some at
slice-value (y ∷ ys) (suc i) x at = slice-value ys i x at

pub read-value : {X : Type 0} (xs : List (Option X)) (i : ℕ) (x : X) → value_at xs i ≡ Some x → Some x ≡ get_or xs i (Some x)
read-value xs i x at = sym (get_or_from_slice_get xs i (Some x) (Some x) (slice-value xs i x at))

-- how a count changes with one element
pub count-set : {X : Type 0} (p : X → Bool) (xs : List X) (i : ℕ) (x y : X) → i < length xs → x ≡ get_or xs i x → count_by p (set xs i y) + one_if (p x) ≡ count_by p xs + one_if (p y)
count-set p xs i x y within at =
    let here : one_if (p x) ≡ one_if (p (get_or xs i x)) = ap (λ z. one_if (p z)) at in
    omega (arith, here, sum_by-set (λ x. cond (p x) 1 0) xs i y x within)

pub count-same : {X : Type 0} (p : X → Bool) (xs : List X) (i : ℕ) (x y : X) → i < length xs → x ≡ get_or xs i x → p y ≡ p x → count_by p (set xs i y) ≡ count_by p xs
count-same p xs i x y within at same =
    let e : one_if (p y) ≡ one_if (p x) = ap one_if same in
    omega (arith, e, count-set p xs i x y within at)

pub count-less : {X : Type 0} (p : X → Bool) (xs : List X) (i : ℕ) (x y : X) → i < length xs → x ≡ get_or xs i x → p x ≡ true → p y ≡ false → count_by p (set xs i y) + 1 ≡ count_by p xs
count-less p xs i x y within at yes_ no_ =
    let e : one_if (p y) ≡ 0 = ap one_if no_ in
    let f : one_if (p x) ≡ 1 = ap one_if yes_ in
    omega (arith, e, f, count-set p xs i x y within at)

pub count-push : {X : Type 0} (p : X → Bool) (xs : List X) (y : X) → count_by p (xs ++ y ∷ []) ≡ count_by p xs + one_if (p y)
count-push p xs y = sum_by-append (λ x. cond (p x) 1 0) xs (y ∷ []) ∙ omega arith

-- an element that passes is counted
pub count-some : {X : Type 0} (p : X → Bool) (xs : List X) (i : ℕ) (x : X) → slice_get xs i ≡ Some x → p x ≡ true → 0 < count_by p xs
count-some p [] i x at passes = absurd (none-some x at)
count-some p (y ∷ ys) zero x at passes =
    let same : y ≡ x = same_Some y x at in
    let e : one_if (p y) ≡ 1 = ap one_if (ap p same ∙ passes) in
    omega (arith, e, sum_by-cons (λ x. cond (p x) 1 0) y ys)
count-some p (y ∷ ys) (suc i) x at passes =
    let IH = count-some p ys i x at passes in omega (arith, IH, sum_by-cons (λ x. cond (p x) 1 0) y ys)

-- whether one passes, by the count
pub any-count : {X : Type 0} (p : X → Bool) (xs : List X) → list_any p xs ≡ nat_lt 0 (count_by p xs)
any-count p [] = refl
any-count p (x ∷ xs) =
    let IH = any-count p xs in
    let c : count_by p (x ∷ xs) ≡ one_if (p x) + count_by p xs = sum_by-cons (λ x. cond (p x) 1 0) x xs in
    rw c (elim (cases_Bool (p x)) [ inl yes_ ↦ rw yes_ (grind (arith, common_steps)) | inr no_ ↦ rw (no_, IH) (grind (arith, common_steps)) ])

-- a test of elements with their places goes by a test of others
pub any-enumerated : {X Y : Type 0} (f : X → Y) (p : ℕ × Y → Bool) (q : X → Bool) (m : ℕ) (xs : List X) → ((k : ℕ) (x : X) → slice_get xs k ≡ Some x → p (m + k, f x) ≡ q x) → list_any p (enumerate_from m (map f xs)) ≡ list_any q xs
any-enumerated f p q m [] each = refl
any-enumerated f p q m (x ∷ xs) each =
    let z : m + 0 ≡ m = omega arith in
    let here : p (m, f x) ≡ q x = rw z at (each 0 x refl) in
    let IH = any-enumerated f p q (m + 1) xs (λ k y at. let e : (m + 1) + k ≡ m + suc k = omega arith in rw e (each (suc k) y at)) in
    rw (here, IH) refl

-- a number is that of an element
pub place_there : {X : Type 0} (xs : Vec X Global) (i : ℕ) → i < length xs.items → i < vec_len xs
place_there xs i inside = rw xs.ok.0 inside
