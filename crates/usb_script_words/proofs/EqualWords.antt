-- Words with the same letters are equal.
use Rattle.std.proofs.Common.{◌≡◌, ℕ, ◌<◌, suc, true, List, [], ◌∷◌, length, get_or, refl, arith}
use Rattle.std.specs.Str.{bytes_eq}
use Rattle.std.proofs.lemmas.Bool.Decides.{nat_tests}

-- two words as long as each other, with the same letter at each place, are equal
pub equal_letters : (word text : List ℕ) → length word ≡ length text → ((k : ℕ) → k < length text → get_or word k 0 ≡ get_or text k 0) → bytes_eq word text ≡ true
equal_letters [] [] same each = refl
equal_letters [] (t ∷ text) same each = absurd (omega arith)
equal_letters (b ∷ word) [] same each = absurd (omega arith)
equal_letters (b ∷ word) (t ∷ text) same each =
    let first : b ≡ t = each 0 (omega arith) in
    let others = equal_letters word text (omega arith) (λ k h. each (suc k) (omega arith)) in
    grind (arith, nat_tests, first, others)
