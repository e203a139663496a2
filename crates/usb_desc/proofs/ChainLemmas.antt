-- Lemmas on chains of descriptors.
use Rattle.std.proofs.Common.{◌≡◌, ℕ, zero, suc, ◌+◌, ◌<◌, ◌≤◌, true, false, List, [], ◌∷◌, length, refl, sym, ◌∙◌, ap, arith, length-drop, get_or-take, length-take, ◌++◌, append_assoc}
use Rattle.std.proofs.lemmas.Bool.{cond-true, cond-false, cases_Bool}
use mathlib.Core.Logic.{inl, inr}
use Rattle.std.proofs.lemmas.Bool.Decides.{nat_tests}
use Rattle.usb_desc.specs.Bytes.{byte_at, length_field}
use Rattle.usb_desc.specs.Chain.{begins_descriptor, first_descriptor, behind_first, chain_of_at_most, chain, WalkLosesNothing}
use Rattle.usb_desc.specs.Forms.{IsDescriptor}
use Rattle.std.specs.List.{concat}

-- what it means that a descriptor begins
pub at_least_two : (bytes : List ℕ) → begins_descriptor bytes ≡ true → 2 ≤ length_field bytes
at_least_two bytes begins = grind (arith, nat_tests)

pub within : (bytes : List ℕ) → begins_descriptor bytes ≡ true → length_field bytes ≤ length bytes
within bytes begins = grind (arith, nat_tests)

-- nothing begins where fewer than two bytes stand
pub none_in_few : (bytes : List ℕ) → length bytes ≤ 1 → begins_descriptor bytes ≡ false
none_in_few bytes few = grind (arith, nat_tests)

pub length_behind : (bytes : List ℕ) → begins_descriptor bytes ≡ true → length (behind_first bytes) + length_field bytes ≡ length bytes
length_behind bytes begins =
    let b = within bytes begins in
    omega (arith, length-drop (length_field bytes) bytes)

pub length_first : (bytes : List ℕ) → begins_descriptor bytes ≡ true → length (first_descriptor bytes) ≡ length_field bytes
length_first bytes begins =
    let b = within bytes begins in
    omega (arith, length-take (length_field bytes) bytes)

-- the first two bytes of a descriptor are those of the bytes that it was cut from
pub first_byte : (bytes : List ℕ) (offset : ℕ) → begins_descriptor bytes ≡ true → offset < 2 → byte_at (first_descriptor bytes) offset ≡ byte_at bytes offset
first_byte bytes offset begins low =
    let b = at_least_two bytes begins in
    get_or-take (length_field bytes) bytes offset 0 (omega arith)

-- one step of a chain
pub chain_step : (count : ℕ) (bytes : List ℕ) → begins_descriptor bytes ≡ true → chain_of_at_most (suc count) bytes ≡ first_descriptor bytes ∷ chain_of_at_most count (behind_first bytes)
chain_step count bytes begins = cond-true _ _ _ begins

pub chain_stop : (count : ℕ) (bytes : List ℕ) → begins_descriptor bytes ≡ false → chain_of_at_most count bytes ≡ []
chain_stop zero bytes ends = refl
chain_stop (suc count) bytes ends = cond-false _ _ _ ends

-- more room than there are bytes changes nothing
pub chain_of_enough : (m n : ℕ) (bytes : List ℕ) → length bytes ≤ m → length bytes ≤ n → chain_of_at_most m bytes ≡ chain_of_at_most n bytes
chain_of_enough zero n bytes below_m below_n = sym (chain_stop n bytes (none_in_few bytes (omega arith)))
chain_of_enough (suc m) zero bytes below_m below_n = chain_stop (suc m) bytes (none_in_few bytes (omega arith))
chain_of_enough (suc m) (suc n) bytes below_m below_n =
    elim (cases_Bool (begins_descriptor bytes)) [
      | inl begins ↦
          let shorter = length_behind bytes begins in
          let least = at_least_two bytes begins in
          chain_step m bytes begins
          ∙ ap (λ ds. first_descriptor bytes ∷ ds) (chain_of_enough m n (behind_first bytes) (omega arith) (omega arith))
          ∙ sym (chain_step n bytes begins)
      | inr ends ↦ chain_stop (suc m) bytes ends ∙ sym (chain_stop (suc n) bytes ends)
    ]

pub chain_first_at : (count : ℕ) (bytes : List ℕ) → length bytes ≡ suc count → begins_descriptor bytes ≡ true → chain_of_at_most (suc count) bytes ≡ first_descriptor bytes ∷ chain_of_at_most (length (behind_first bytes)) (behind_first bytes)
chain_first_at count bytes long begins =
    let shorter = length_behind bytes begins in
    let least = at_least_two bytes begins in
    chain_step count bytes begins ∙ ap (λ ds. first_descriptor bytes ∷ ds) (chain_of_enough count (length (behind_first bytes)) (behind_first bytes) (omega arith) (omega arith))

pub chain_first : (bytes : List ℕ) → begins_descriptor bytes ≡ true → chain bytes ≡ first_descriptor bytes ∷ chain (behind_first bytes)
unfolding chain
chain_first [] begins = absurd (omega (arith, within [] begins, at_least_two [] begins))
chain_first (byte ∷ bytes) begins = chain_first_at (length bytes) (byte ∷ bytes) refl begins

pub chain_none : (bytes : List ℕ) → begins_descriptor bytes ≡ false → chain bytes ≡ []
unfolding chain
chain_none bytes ends = chain_stop (length bytes) bytes ends

-- the first descriptor is one
pub first_form : (bytes : List ℕ) → begins_descriptor bytes ≡ true → IsDescriptor (first_descriptor bytes)
first_form bytes begins =
    let two = at_least_two bytes begins in
    let long = length_first bytes begins in
    let same = first_byte bytes 0 begins (omega arith) in
    record { two = omega arith; whole = omega arith }

-- a walk loses no byte
pub walk_loses_nothing : (bytes : List ℕ) → WalkLosesNothing bytes
walk_loses_nothing bytes [] rest walked = walked
walk_loses_nothing bytes (descriptor ∷ yielded) rest (next, step, walked) =
    step.1 ∙ ap (λ behind. descriptor ++ behind) (walk_loses_nothing next yielded rest walked) ∙ sym (append_assoc descriptor (concat yielded) rest)
