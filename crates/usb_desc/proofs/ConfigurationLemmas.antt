-- Lemmas on configurations that stand one behind the other.
use Rattle.std.proofs.Common.{◌≡◌, ℕ, zero, suc, ◌+◌, ◌<◌, ◌≤◌, true, false, cond, List, [], ◌∷◌, length, take, drop, refl, sym, ◌∙◌, ap, arith, length-drop, get_or-take, length-take, get_or, Some, None}
use Rattle.std.proofs.lemmas.Bool.{cond-true, cond-false, cases_Bool}
use Rattle.std.proofs.lemmas.Bool.Decides.{nat_tests}
use Rattle.std.proofs.lemmas.List.{drop_all, length-take-le}
use mathlib.Core.Logic.{inl, inr}
use Rattle.usb_desc.specs.Bytes.{length_field, type_field}
use Rattle.usb_desc.specs.Configurations.{is_configuration, configuration_of, total_length, concatenated_at_most, concatenated, configurations}
use Rattle.usb_desc.specs.Forms.{IsConfiguration}

-- what it means that a configuration stands at the front
pub first_long : (bytes : List ℕ) → is_configuration bytes ≡ true → 9 ≤ length_field bytes
first_long bytes is = grind (arith, nat_tests)

pub type_is : (bytes : List ℕ) → is_configuration bytes ≡ true → type_field bytes ≡ 2
type_is bytes is = grind (arith, nat_tests)

pub total_long : (bytes : List ℕ) → is_configuration bytes ≡ true → length_field bytes ≤ total_length bytes
total_long bytes is = grind (arith, nat_tests)

pub total_within : (bytes : List ℕ) → is_configuration bytes ≡ true → total_length bytes ≤ length bytes
total_within bytes is = grind (arith, nat_tests)

pub none_in_few : (bytes : List ℕ) → length bytes ≤ 8 → is_configuration bytes ≡ false
none_in_few bytes few = grind (arith, nat_tests)

-- one step
pub step : (count : ℕ) (bytes : List ℕ) → is_configuration bytes ≡ true → concatenated_at_most (suc count) bytes ≡ take (total_length bytes) bytes ∷ concatenated_at_most count (drop (total_length bytes) bytes)
step count bytes is = cond-true _ _ _ is

pub stop : (count : ℕ) (bytes : List ℕ) → is_configuration bytes ≡ false → concatenated_at_most count bytes ≡ []
stop zero bytes ends = refl
stop (suc count) bytes ends = cond-false _ _ _ ends

pub length_behind : (bytes : List ℕ) → is_configuration bytes ≡ true → length (drop (total_length bytes) bytes) + total_length bytes ≡ length bytes
length_behind bytes is =
    let b = total_within bytes is in
    omega (arith, length-drop (total_length bytes) bytes)

-- more room than there are bytes changes nothing
pub enough : (m n : ℕ) (bytes : List ℕ) → length bytes ≤ m → length bytes ≤ n → concatenated_at_most m bytes ≡ concatenated_at_most n bytes
enough zero n bytes below_m below_n = sym (stop n bytes (none_in_few bytes (omega arith)))
enough (suc m) zero bytes below_m below_n = stop (suc m) bytes (none_in_few bytes (omega arith))
enough (suc m) (suc n) bytes below_m below_n =
    elim (cases_Bool (is_configuration bytes)) [
      | inl is ↦
          let behind = length_behind bytes is in
          let first = first_long bytes is in
          let total = total_long bytes is in
          step m bytes is
          ∙ ap (λ cs. take (total_length bytes) bytes ∷ cs) (enough m n (drop (total_length bytes) bytes) (omega arith) (omega arith))
          ∙ sym (step n bytes is)
      | inr ends ↦ stop (suc m) bytes ends ∙ sym (stop (suc n) bytes ends)
    ]

first_at : (count : ℕ) (bytes : List ℕ) → length bytes ≡ suc count → is_configuration bytes ≡ true → concatenated_at_most (suc count) bytes ≡ take (total_length bytes) bytes ∷ concatenated_at_most (length (drop (total_length bytes) bytes)) (drop (total_length bytes) bytes)
first_at count bytes long is =
    let behind = length_behind bytes is in
    let first = first_long bytes is in
    let total = total_long bytes is in
    step count bytes is ∙ ap (λ cs. take (total_length bytes) bytes ∷ cs) (enough count (length (drop (total_length bytes) bytes)) (drop (total_length bytes) bytes) (omega arith) (omega arith))

pub concatenated_first : (bytes : List ℕ) → is_configuration bytes ≡ true → concatenated bytes ≡ take (total_length bytes) bytes ∷ concatenated (drop (total_length bytes) bytes)
unfolding concatenated
concatenated_first [] is = absurd (omega (arith, first_long [] is))
concatenated_first (byte ∷ bytes) is = first_at (length bytes) (byte ∷ bytes) refl is

pub concatenated_none : (bytes : List ℕ) → is_configuration bytes ≡ false → concatenated bytes ≡ []
unfolding concatenated
concatenated_none bytes ends = stop (length bytes) bytes ends

-- the configuration that is cut off keeps its first bytes
pub configuration_form : (bytes : List ℕ) → is_configuration bytes ≡ true → IsConfiguration (take (total_length bytes) bytes)
configuration_form bytes is =
    let first = first_long bytes is in
    let total = total_long bytes is in
    let within = total_within bytes is in
    let n = total_length bytes in
    let same : (offset : ℕ) → offset < 9 → get_or (take n bytes) offset 0 ≡ get_or bytes offset 0 = λ offset low. get_or-take n bytes offset 0 (omega arith) in
    let long : length (take n bytes) ≡ n = omega (arith, length-take n bytes) in
    let same_first = same 0 (omega arith) in
    record {
      first = record {
        type = same 1 (omega arith) ∙ type_is bytes is;
        long_enough = omega arith;
        whole = omega arith;
      };
      whole = omega (arith, same 2 (omega arith), same 3 (omega arith));
    }

-- the two answers of a look at the front
pub total_at_some : (bytes : List ℕ) (total : ℕ) → Some total ≡ cond (is_configuration bytes) (Some (total_length bytes)) None → (is_configuration bytes ≡ true) × (total ≡ total_length bytes)
total_at_some bytes total e =
    elim (cases_Bool (is_configuration bytes)) [
      | inl is ↦ (is, let f : Some total ≡ Some (total_length bytes) = e ∙ cond-true _ _ _ is in cc)
      | inr not ↦ absurd (let f : Some total ≡ None = e ∙ cond-false _ _ _ not in cc)
    ]

pub none_at_none : (bytes : List ℕ) → None ≡ cond (is_configuration bytes) (Some (total_length bytes)) None → is_configuration bytes ≡ false
none_at_none bytes e =
    elim (cases_Bool (is_configuration bytes)) [
      | inl is ↦ absurd (let f : None ≡ Some (total_length bytes) = e ∙ cond-true _ _ _ is in cc)
      | inr not ↦ not
    ]

-- too few bytes for a device have no configuration
pub configurations_short : (bytes : List ℕ) → length bytes < 18 → configurations bytes ≡ []
unfolding configurations
configurations_short bytes short = ap concatenated (drop_all 18 bytes (omega arith)) ∙ concatenated_none [] refl

pub configurations_behind : (bytes : List ℕ) → configurations bytes ≡ concatenated (drop 18 bytes)
unfolding configurations
configurations_behind bytes = refl

-- a configuration of this length is cut to it
pub total_taken : (bytes : List ℕ) (total : ℕ) → is_configuration bytes ≡ true → total ≡ total_length bytes → total ≡ length (take total bytes)
total_taken bytes total is counts =
    let within = total_within bytes is in
    let all : total ≤ length bytes = omega (arith, within) in
    sym (length-take-le total bytes all)

pub configuration_some : (bytes : List ℕ) → is_configuration bytes ≡ true → configuration_of bytes ≡ Some (take (total_length bytes) bytes)
configuration_some bytes is = rw is refl

pub configuration_none : (bytes : List ℕ) → is_configuration bytes ≡ false → configuration_of bytes ≡ None
configuration_none bytes is = rw is refl
