-- Lemmas on numbers as sets of bits.
use Rattle.std.proofs.Common.{◌≡◌, ℕ, zero, suc, ◌+◌, ◌*◌, ◌/◌, ◌%◌, ◌^◌, ◌<◌, ◌≤◌, Bool, true, false, cond, not, ◌&&◌, ◌||◌, ltb, eqb, refl, sym, ap, ◌∙◌, arith, bit_and, bit_or, one-mul, add_comm, w32, mod-eq_of_lt, IsTrue}
use Rattle.std.proofs.Math.Pow.{pow-lt, pow_pos}
use Rattle.std.specs.Ordering.{nat_cmp, eq_by_cmp}
use Rattle.std.specs.Cmp.{nat_cmp_total}
use Rattle.std.specs.FinSet as set
use Rattle.std.specs.Int.{bit_at, bit_not}
use Rattle.std.proofs.lemmas.Bool.{cases_Bool, cases_order, cases_eq, cases_lt, and_right, lt-ltb, le-ltb, cond-true, cond-false, eq-eqb, ne_eqb}
use Rattle.std.proofs.lemmas.Bool.Decides.{nat_tests}
use Rattle.std.proofs.lemmas.Nat.{mod-pow-add}
use Rattle.std.proofs.lemmas.Nat.Bits.{bit_at-lt, bit_at-zero, bit_at_or, bit_at_and, bit_at_not, bit_at-pow_same, bit_at-pow_other, and_pow}
use mathlib.Core.Logic.{inl, inr}
use Rattle.usb_desc.specs.BitSet.{bit_of, mask_of, bits_below, members, IsEndpointAddress}

-- a set of places, and whether it has one
abbrev Places : Type 0
Places = set.FinSet nat_cmp

abbrev pub has : Places → ℕ → Bool
has places place = set.contains {R = nat_cmp} places place

-- equal numbers alone tie
pub tied : (a b : ℕ) → eq_by_cmp nat_cmp a b ≡ eqb a b
tied a b = grind (arith, nat_tests)

-- the last place decides for itself alone
with_bit : (b : Bool) (count place : ℕ) → (place ≡ count → b ≡ true) → (eqb place count || (ltb place count && b)) ≡ (ltb place (suc count) && b)
with_bit b count place on =
    elim (cases_order place count) [
      | inl same ↦ rw (eq-eqb place count same, lt-ltb place (suc count) (omega arith), on same) refl
      | inr (inl below) ↦ rw (ne_eqb place count (λ e. omega arith), lt-ltb place count below, lt-ltb place (suc count) (omega arith)) refl
      | inr (inr above) ↦ rw (ne_eqb place count (λ e. omega arith), le-ltb place count (omega arith), le-ltb place (suc count) (omega arith)) refl
    ]

without_bit : (b : Bool) (count place : ℕ) → (place ≡ count → b ≡ false) → (ltb place count && b) ≡ (ltb place (suc count) && b)
without_bit b count place off =
    elim (cases_order place count) [
      | inl same ↦ rw (le-ltb place count (omega arith), lt-ltb place (suc count) (omega arith), off same) refl
      | inr (inl below) ↦ rw (lt-ltb place count below, lt-ltb place (suc count) (omega arith)) refl
      | inr (inr above) ↦ rw (le-ltb place count (omega arith), le-ltb place (suc count) (omega arith)) refl
    ]

-- which places a number has a bit at
abbrev on_at : ℕ → ℕ → Bool
on_at number place = eqb (bit_at number place) 1

pub has_below : (count number place : ℕ) → has (bits_below count number) place ≡ (ltb place count && on_at number place)
has_below zero number place = set.contains-empty nat_cmp place ∙ ap (λ b. b && on_at number place) (sym (le-ltb place 0 (omega arith)))
has_below (suc count) number place =
    elim (cases_Bool (on_at number count)) [
      | inl on ↦
          ap (λ (s : Places). has s place) (cond-true (on_at number count) (set.insert (bits_below count number) count) (bits_below count number) on)
          ∙ set.contains-insert nat_cmp_total (bits_below count number) count place
          ∙ ap (λ b. b || has (bits_below count number) place) (tied place count)
          ∙ ap (λ b. eqb place count || b) (has_below count number place)
          ∙ with_bit (on_at number place) count place (λ same. ap (on_at number) same ∙ on)
      | inr off ↦
          ap (λ (s : Places). has s place) (cond-false (on_at number count) (set.insert (bits_below count number) count) (bits_below count number) off)
          ∙ has_below count number place
          ∙ without_bit (on_at number place) count place (λ same. ap (on_at number) same ∙ off)
    ]

pub has_bit : (number place : ℕ) → has (members number) place ≡ (ltb place 32 && on_at number place)
unfolding members
has_bit number place = has_below 32 number place

-- the number with these bits below a count
abbrev number_below : ℕ → Places → ℕ
number_below zero places = 0
number_below (suc count) places = number_below count places + cond (has places count) (2 ^ count) 0

-- the number with the bits of a number
bit_times : (b p : ℕ) → b < 2 → cond (eqb b 1) p 0 ≡ b * p
bit_times zero p low = omega arith
bit_times (suc zero) p low = sym (one-mul p)
bit_times (suc (suc b)) p low = absurd (omega arith)

below_again : (count number : ℕ) → count ≤ 32 → number_below count (members number) ≡ number % 2 ^ count
below_again zero number low = omega arith
below_again (suc count) number low =
    let held : has (members number) count ≡ on_at number count = has_bit number count ∙ ap (λ b. b && on_at number count) (lt-ltb count 32 (omega arith)) in
    let part : number_below count (members number) ≡ number % 2 ^ count = below_again count number (omega arith) in
    let bit : cond (has (members number) count) (2 ^ count) 0 ≡ bit_at number count * 2 ^ count = ap (λ b. cond b (2 ^ count) 0) held ∙ bit_times (bit_at number count) (2 ^ count) (bit_at-lt number count) in
    let up : number % 2 ^ suc count ≡ bit_at number count * 2 ^ count + number % 2 ^ count = ap (λ k. number % 2 ^ k) (omega arith) ∙ mod-pow-add number 1 count in
    ap (λ n. n + cond (has (members number) count) (2 ^ count) 0) part
    ∙ ap (λ n. number % 2 ^ count + n) bit
    ∙ add_comm (number % 2 ^ count) (bit_at number count * 2 ^ count)
    ∙ sym up

number_of : Places → ℕ
number_of places = number_below 32 places

number_again : (number : ℕ) → number < 2 ^ 32 → number_of (members number) ≡ number
unfolding number_of
number_again number low = below_again 32 number (omega arith) ∙ mod-eq_of_lt low

-- sets with the same places are equal
same_places : (s t : Places) → ((place : ℕ) → has s place ≡ has t place) → s ≡ t
same_places s t same = set.same_set nat_cmp_total set.nat_cmp-IsAntisymmetric s t same

pub members_none : members 0 ≡ set.empty
members_none = same_places (members 0) set.empty (λ place. has_bit 0 place
    ∙ ap (λ bit. ltb place 32 && eqb bit 1) (bit_at-zero place)
    ∙ and_right (ltb place 32) false refl
    ∙ sym (set.contains-empty nat_cmp place))

pub none_from_empty : (number : ℕ) → number < 2 ^ 32 → members number ≡ set.empty → number ≡ 0
none_from_empty number low none = sym (number_again number low) ∙ ap number_of (none ∙ sym members_none) ∙ number_again 0 (omega arith)

-- a place below 32 may be left out of a test
spread : (place k : ℕ) → k < 32 → (b : Bool) → (ltb place 32 && (eqb place k || b)) ≡ (eqb place k || (ltb place 32 && b))
spread place k within b =
    elim (cases_eq place k) [
      | inl same ↦ rw (eq-eqb place k same, lt-ltb place 32 (omega arith)) refl
      | inr other ↦ rw (ne_eqb place k other) refl
    ]

-- one bit more
on_set : (number k place : ℕ) → on_at (bit_or number (2 ^ k)) place ≡ (eqb place k || on_at number place)
on_set number k place =
    let both = bit_at_or number (2 ^ k) place in
    let low = bit_at-lt number place in
    elim (cases_eq place k) [
      | inl same ↦
          let one : bit_at (2 ^ k) place ≡ 1 = ap (bit_at (2 ^ k)) same ∙ bit_at-pow_same k in
          let is : bit_at (bit_or number (2 ^ k)) place ≡ 1 = omega arith in
          rw (eq-eqb _ _ is, eq-eqb place k same) refl
      | inr other ↦
          let zero : bit_at (2 ^ k) place ≡ 0 = bit_at-pow_other k place other in
          let is : bit_at (bit_or number (2 ^ k)) place ≡ bit_at number place = omega arith in
          ap (λ bit. eqb bit 1) is ∙ sym (ap (λ b. b || on_at number place) (ne_eqb place k other))
    ]

pub members_set : (number k : ℕ) → k < 32 → members (bit_or number (2 ^ k)) ≡ set.insert (members number) k
members_set number k within = same_places _ _ (λ place. has_bit (bit_or number (2 ^ k)) place
    ∙ ap (λ b. ltb place 32 && b) (on_set number k place)
    ∙ spread place k within (on_at number place)
    ∙ sym (set.contains-insert nat_cmp_total (members number) k place ∙ ap (λ b. b || has (members number) place) (tied place k) ∙ ap (λ b. eqb place k || b) (has_bit number place)))

-- one bit less
on_clear : (number k place : ℕ) → place < 32 → k < 32 → on_at (bit_and number (bit_not w32 (2 ^ k))) place ≡ (not (eqb place k) && on_at number place)
on_clear number k place inside within =
    let both = bit_at_and number (bit_not w32 (2 ^ k)) place in
    let turned = bit_at_not w32 (2 ^ k) place (pow-lt within) inside in
    let low = bit_at-lt number place in
    elim (cases_eq place k) [
      | inl same ↦
          let one : bit_at (2 ^ k) place ≡ 1 = ap (bit_at (2 ^ k)) same ∙ bit_at-pow_same k in
          let is : bit_at (bit_and number (bit_not w32 (2 ^ k))) place ≡ 0 = omega arith in
          ap (λ bit. eqb bit 1) is ∙ sym (ap (λ b. not b && on_at number place) (eq-eqb place k same))
      | inr other ↦
          let zero : bit_at (2 ^ k) place ≡ 0 = bit_at-pow_other k place other in
          let is : bit_at (bit_and number (bit_not w32 (2 ^ k))) place ≡ bit_at number place = omega arith in
          ap (λ bit. eqb bit 1) is ∙ sym (ap (λ b. not b && on_at number place) (ne_eqb place k other))
    ]

gather : (number k : ℕ) → k < 32 → (place : ℕ) → (ltb place 32 && on_at (bit_and number (bit_not w32 (2 ^ k))) place) ≡ (not (eqb place k) && (ltb place 32 && on_at number place))
gather number k within place =
    elim (cases_lt place 32) [
      | inl inside ↦ rw (lt-ltb place 32 inside) (on_clear number k place inside within)
      | inr past ↦ rw (le-ltb place 32 past) (sym (and_right (not (eqb place k)) false refl))
    ]

pub members_clear : (number k : ℕ) → k < 32 → members (bit_and number (bit_not w32 (2 ^ k))) ≡ set.remove (members number) k
members_clear number k within = same_places _ _ (λ place. has_bit (bit_and number (bit_not w32 (2 ^ k))) place
    ∙ gather number k within place
    ∙ sym (set.contains-remove nat_cmp_total (members number) k place ∙ ap (λ b. not b && has (members number) place) (tied place k) ∙ ap (λ b. not (eqb place k) && b) (has_bit number place)))

-- the test of one bit
times_held : (b p : ℕ) → b < 2 → 0 < p → eqb b 1 ≡ not (eqb (b * p) 0)
times_held zero p low above = ap not (sym (eq-eqb (0 * p) 0 (omega arith)))
times_held (suc zero) p low above = ap not (sym (ne_eqb (1 * p) 0 (λ e. omega arith)))
times_held (suc (suc b)) p low above = absurd (omega arith)

pub bit_held : (number k : ℕ) → k < 32 → has (members number) k ≡ not (eqb (bit_and number (2 ^ k)) 0)
bit_held number k within =
    has_bit number k
    ∙ ap (λ b. b && on_at number k) (lt-ltb k 32 within)
    ∙ times_held (bit_at number k) (2 ^ k) (bit_at-lt number k) (pow_pos k)
    ∙ ap (λ n. not (eqb n 0)) (sym (and_pow number k))

-- powers of two tell their exponents apart
exponents : (i j : ℕ) → 2 ^ i ≡ 2 ^ j → i ≡ j
exponents i j same =
    elim (cases_order i j) [
      | inl equal ↦ equal
      | inr (inl below) ↦ absurd (let less : 2 ^ i < 2 ^ j = pow-lt below in omega arith)
      | inr (inr above) ↦ absurd (let less : 2 ^ j < 2 ^ i = pow-lt above in omega arith)
    ]

-- the bits of endpoint addresses differ
bits_apart : (a b : ℕ) → IsEndpointAddress a → IsEndpointAddress b → bit_of a ≡ bit_of b → a ≡ b
bits_apart a b (inl low_a) (inl low_b) same = omega arith
bits_apart a b (inl low_a) (inr high_b) same = omega arith
bits_apart a b (inr high_a) (inl low_b) same = omega arith
bits_apart a b (inr high_a) (inr high_b) same = omega arith

pub masks_apart : (a b : ℕ) → IsEndpointAddress a → IsEndpointAddress b → mask_of a ≡ mask_of b → a ≡ b
masks_apart a b is_a is_b same = bits_apart a b is_a is_b (exponents (bit_of a) (bit_of b) same)

-- every address has a bit
pub bit_within : (address : ℕ) → address < 256 → bit_of address < 32
bit_within address low = omega arith

-- the mask as a shift computes it
pub shifted_mask : (address : ℕ) → address < 256 → 1 * 2 ^ (2 * (address % 16) + address / 128) % 4294967296 ≡ mask_of address
shifted_mask address low =
    let fits : 2 ^ bit_of address < 4294967296 = pow-lt (bit_within address low) in
    ap (λ n. n % 4294967296) (one-mul (2 ^ bit_of address)) ∙ mod-eq_of_lt fits

-- a number that a test finds to be 0
pub no_bit : (bits : ℕ) → IsTrue (eqb bits 0) → bits ≡ 0
no_bit bits test = grind (arith, nat_tests)

pub zero_is_true : (bits : ℕ) → bits ≡ 0 → IsTrue (eqb bits 0)
zero_is_true bits none = grind (arith, nat_tests)
