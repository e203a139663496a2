-- The first line of a script.
use Rattle.std.proofs.Common.{◌≡◌, ℕ, ◌<◌, suc, zero, List, [], ◌∷◌, length, get_or, take, drop, eqb, false, refl, arith}
use Rattle.std.proofs.lemmas.Bool.{ne_eqb}
use Rattle.usb_script_words.specs.Lines.{lines_of}

-- a script whose first LF stands at i
pub lines_of_at : (bytes : List ℕ) (i : ℕ) → i < length bytes → get_or bytes i 0 ≡ 10 → ((k : ℕ) → k < i → get_or bytes k 0 ≡ 10 → ⊥) → lines_of bytes ≡ take i bytes ∷ lines_of (drop (suc i) bytes)
lines_of_at [] i within here before = absurd (omega arith)
lines_of_at (b ∷ bytes) zero within here before =
    let feed : b ≡ 10 = here in rw feed refl
lines_of_at (b ∷ bytes) (suc i) within here before =
    let other : eqb b 10 ≡ false = ne_eqb b 10 (before 0 (omega arith)) in
    let rest = lines_of_at bytes i (omega arith) here (λ k h. before (suc k) (omega arith)) in
    rw (other, rest) refl

-- a script with no LF
lines_of_last : (b : ℕ) (bytes : List ℕ) → ((k : ℕ) → k < length (b ∷ bytes) → get_or (b ∷ bytes) k 0 ≡ 10 → ⊥) → lines_of (b ∷ bytes) ≡ (b ∷ bytes) ∷ []
lines_of_last b [] before =
    let other : eqb b 10 ≡ false = ne_eqb b 10 (before 0 (omega arith)) in rw other refl
lines_of_last b (c ∷ bytes) before =
    let other : eqb b 10 ≡ false = ne_eqb b 10 (before 0 (omega arith)) in
    let rest = lines_of_last c bytes (λ k h. before (suc k) (omega arith)) in
    rw (other, rest) refl

-- the same, at a list that isn't taken apart
pub lines_of_all : (bytes : List ℕ) → 0 < length bytes → ((k : ℕ) → k < length bytes → get_or bytes k 0 ≡ 10 → ⊥) → lines_of bytes ≡ bytes ∷ []
lines_of_all [] some before = absurd (omega arith)
lines_of_all (b ∷ bytes) some before = lines_of_last b bytes before
