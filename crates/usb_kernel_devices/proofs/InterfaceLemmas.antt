-- Sets of interface numbers, and their flags.
use Rattle.std.proofs.Common.{◌≡◌, ◌≢◌, ℕ, ◌+◌, ◌<◌, zero, suc, arith, Bool, true, false, List, [], ◌∷◌, ◌++◌, length, set, get_or, refl, ap, sym, ◌∙◌, inl, inr}
use Rattle.std.specs.Prelude.{◌||◌, ◌==◌, nat_lt, not, replicate}
use Rattle.std.specs.List.{list_any}
use Rattle.std.proofs.lemmas.Bool.{cases_Bool, cases_eq, ne_eqb, eq-eqb}
use Rattle.std.proofs.lemmas.List.Sums.{fold-append}
use Rattle.usb_kernel_devices.specs.Interfaces.{contains, is_empty, insert, remove, set_of}
use Rattle.usb_kernel_devices.specs.Flags.{numbers_from}

-- what is put in is there, and all else is as before
pub contains-insert : (ns : List ℕ) (i : ℕ) → contains (insert ns i) i ≡ true
contains-insert [] i = rw (eq-eqb i i refl) refl
contains-insert (n ∷ ns) i =
    elim (cases_Bool (nat_lt i n)) [
      | inl below ↦ rw (below, eq-eqb i i refl) refl
      | inr above ↦
          elim (cases_eq n i) [
            | inl same ↦ rw (above, eq-eqb n i same, eq-eqb n i same) refl
            | inr apart ↦ rw (above, ne_eqb n i apart, ne_eqb n i apart) (contains-insert ns i)
          ]
    ]

pub contains-insert_other : (ns : List ℕ) (i j : ℕ) → i ≢ j → contains (insert ns i) j ≡ contains ns j
contains-insert_other [] i j other = rw (ne_eqb i j other) refl
contains-insert_other (n ∷ ns) i j other =
    elim (cases_Bool (nat_lt i n)) [
      | inl below ↦ rw (below, ne_eqb i j other) refl
      | inr above ↦
          elim (cases_eq n i) [
            | inl same ↦ rw (above, eq-eqb n i same) refl
            | inr apart ↦ rw (above, ne_eqb n i apart) (ap (λ v. (n == j) || v) (contains-insert_other ns i j other))
          ]
    ]

-- what is taken out is not there, and all else is as before
pub contains-remove : (ns : List ℕ) (i : ℕ) → contains (remove ns i) i ≡ false
contains-remove [] i = refl
contains-remove (n ∷ ns) i =
    elim (cases_eq n i) [
      | inl same ↦ rw (eq-eqb n i same) (contains-remove ns i)
      | inr apart ↦ rw (ne_eqb n i apart, ne_eqb n i apart) (contains-remove ns i)
    ]

pub contains-remove_other : (ns : List ℕ) (i j : ℕ) → i ≢ j → contains (remove ns i) j ≡ contains ns j
contains-remove_other [] i j other = refl
contains-remove_other (n ∷ ns) i j other =
    elim (cases_eq n i) [
      | inl same ↦ rw (eq-eqb n i same, ne_eqb n j (λ z. other (sym same ∙ z))) (contains-remove_other ns i j other)
      | inr apart ↦ rw (ne_eqb n i apart) (ap (λ v. (n == j) || v) (contains-remove_other ns i j other))
    ]

-- what is not there is taken out without a change, and what was put in where it was not is taken out again
pub remove-absent : (ns : List ℕ) (i : ℕ) → contains ns i ≡ false → remove ns i ≡ ns
remove-absent [] i none = refl
remove-absent (n ∷ ns) i none =
    elim (cases_eq n i) [
      | inl same ↦ let e : true ≡ false = rw (eq-eqb n i same) at none in cc
      | inr apart ↦ rw (ne_eqb n i apart) (ap (λ ms. n ∷ ms) (remove-absent ns i (rw (ne_eqb n i apart) at none)))
    ]

pub remove-insert : (ns : List ℕ) (i : ℕ) → contains ns i ≡ false → remove (insert ns i) i ≡ ns
remove-insert [] i none = rw (eq-eqb i i refl) refl
remove-insert (n ∷ ns) i none =
    elim (cases_eq n i) [
      | inl same ↦ let e : true ≡ false = rw (eq-eqb n i same) at none in cc
      | inr apart ↦
          elim (cases_Bool (nat_lt i n)) [
            | inl below ↦ rw (below, eq-eqb i i refl) (remove-absent (n ∷ ns) i none)
            | inr above ↦ rw (above, ne_eqb n i apart, ne_eqb n i apart) (ap (λ ms. n ∷ ms) (remove-insert ns i (rw (ne_eqb n i apart) at none)))
          ]
    ]

-- one more number, at the end
pub set_of-push : (numbers : List ℕ) (number : ℕ) → set_of (numbers ++ number ∷ []) ≡ insert (set_of numbers) number
set_of-push numbers number = fold-append insert [] numbers (number ∷ [])

-- flags: none is set
pub numbers_from-none : (n count : ℕ) → numbers_from n (replicate count false) ≡ []
unfolding numbers_from
numbers_from-none n zero = refl
numbers_from-none n (suc count) = numbers_from-none (n + 1) count

-- one is read, set or cleared. The numbers behind the first are greater
contains-below : (flags : List Bool) (n i : ℕ) → i < n → contains (numbers_from n flags) i ≡ false
unfolding numbers_from
contains-below [] n i below = refl
contains-below (true ∷ flags) n i below = rw (ne_eqb n i (λ z. absurd (omega (arith, z, below)))) (contains-below flags (n + 1) i (omega (arith, below)))
contains-below (false ∷ flags) n i below = contains-below flags (n + 1) i (omega (arith, below))

contains-flags : (flags : List Bool) (n i : ℕ) → contains (numbers_from n flags) (n + i) ≡ get_or flags i false
unfolding numbers_from
contains-flags [] n i = refl
contains-flags (true ∷ flags) n zero = rw (eq-eqb n (n + 0) (omega arith)) refl
contains-flags (false ∷ flags) n zero = contains-below flags (n + 1) (n + 0) (omega arith)
contains-flags (true ∷ flags) n (suc i) =
    let e : n + suc i ≡ n + 1 + i = omega arith in
    rw (ne_eqb n (n + suc i) (λ z. absurd (omega (arith, z)))) (ap (contains (numbers_from (n + 1) flags)) e ∙ contains-flags flags (n + 1) i)
contains-flags (false ∷ flags) n (suc i) =
    let e : n + suc i ≡ n + 1 + i = omega arith in
    ap (contains (numbers_from (n + 1) flags)) e ∙ contains-flags flags (n + 1) i

insert-front : (flags : List Bool) (n i : ℕ) → i < n → insert (numbers_from n flags) i ≡ i ∷ numbers_from n flags
unfolding numbers_from
insert-front [] n i below = refl
insert-front (true ∷ flags) n i below = let e : nat_lt i n ≡ true = grind (arith, below) in rw e refl
insert-front (false ∷ flags) n i below = insert-front flags (n + 1) i (omega (arith, below))

insert-flags : (flags : List Bool) (n i : ℕ) → i < length flags → numbers_from n (set flags i true) ≡ insert (numbers_from n flags) (n + i)
unfolding numbers_from
insert-flags [] n i within = absurd (omega (arith, within))
insert-flags (true ∷ flags) n zero within =
    let e : n + 0 ≡ n = omega arith in
    let no_ : nat_lt n n ≡ false = grind arith in
    rw (e, no_, eq-eqb n n refl) refl
insert-flags (false ∷ flags) n zero within =
    let e : n + 0 ≡ n = omega arith in
    rw e (sym (insert-front flags (n + 1) n (omega arith)))
insert-flags (true ∷ flags) n (suc i) within =
    let e : n + suc i ≡ n + 1 + i = omega arith in
    let no_ : nat_lt (n + 1 + i) n ≡ false = grind arith in
    rw (e, no_, ne_eqb n (n + 1 + i) (λ z. absurd (omega (arith, z)))) (ap (λ ms. n ∷ ms) (insert-flags flags (n + 1) i (omega (arith, within))))
insert-flags (false ∷ flags) n (suc i) within =
    let e : n + suc i ≡ n + 1 + i = omega arith in
    rw e (insert-flags flags (n + 1) i (omega (arith, within)))

absent-behind : (flags : List Bool) (n i : ℕ) → i ≡ n → remove (numbers_from (n + 1) flags) i ≡ numbers_from (n + 1) flags
absent-behind flags n i same = remove-absent (numbers_from (n + 1) flags) i (contains-below flags (n + 1) i (omega (arith, same)))

remove-flags : (flags : List Bool) (n i : ℕ) → numbers_from n (set flags i false) ≡ remove (numbers_from n flags) (n + i)
unfolding numbers_from
remove-flags [] n i = refl
remove-flags (true ∷ flags) n zero =
    let e : n + 0 ≡ n = omega arith in
    rw (eq-eqb n (n + 0) (sym e)) (sym (absent-behind flags n (n + 0) e))
remove-flags (false ∷ flags) n zero =
    sym (absent-behind flags n (n + 0) (omega arith))
remove-flags (true ∷ flags) n (suc i) =
    rw (ne_eqb n (n + suc i) (λ z. absurd (omega (arith, z)))) (ap (λ ms. n ∷ ms) (remove-flags flags (n + 1) i ∙ ap (remove (numbers_from (n + 1) flags)) (omega arith)))
remove-flags (false ∷ flags) n (suc i) = remove-flags flags (n + 1) i ∙ ap (remove (numbers_from (n + 1) flags)) (omega arith)

-- the same where the first flag is that of 0
pub contains-all : (flags : List Bool) (i : ℕ) → contains (numbers_from 0 flags) i ≡ get_or flags i false
contains-all flags i = ap (contains (numbers_from 0 flags)) (omega arith) ∙ contains-flags flags 0 i

pub insert-all : (flags : List Bool) (i : ℕ) → i < length flags → numbers_from 0 (set flags i true) ≡ insert (numbers_from 0 flags) i
insert-all flags i within = insert-flags flags 0 i within ∙ ap (insert (numbers_from 0 flags)) (omega arith)

pub remove-all : (flags : List Bool) (i : ℕ) → numbers_from 0 (set flags i false) ≡ remove (numbers_from 0 flags) i
remove-all flags i = remove-flags flags 0 i ∙ ap (remove (numbers_from 0 flags)) (omega arith)

pub is_empty-flags : (flags : List Bool) (n : ℕ) → is_empty (numbers_from n flags) ≡ not (list_any (λ flag. flag) flags)
unfolding numbers_from
is_empty-flags [] n = refl
is_empty-flags (true ∷ flags) n = refl
is_empty-flags (false ∷ flags) n = is_empty-flags flags (n + 1)
