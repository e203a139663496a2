-- The first word of a line.
use Rattle.std.proofs.Common.{◌≡◌, ℕ, ◌<◌, ◌≤◌, suc, zero, List, [], ◌∷◌, length, get_or, take, drop, eqb, false, refl, ap, ◌∙◌, sym, arith, filter}
use Rattle.std.proofs.lemmas.Bool.{ne_eqb}
use Rattle.std.specs.List.{slice_split}
use Rattle.usb_script_words.specs.Lines.{words_of, is_space, is_word}

-- what is left behind the first n bytes, which hold no space
record Front (line : List ℕ) (n : ℕ) : Type 0 where
  parts : List (List ℕ)
  split : slice_split is_space line ≡ take n line ∷ parts
  words : filter is_word parts ≡ words_of (drop n line)

front_of : (line : List ℕ) (n : ℕ) → n ≤ length line → ((k : ℕ) → k < n → get_or line k 0 ≡ 32 → ⊥) → (n < length line → get_or line n 0 ≡ 32) → Front line n
front_of [] zero within before end = record { parts = []; split = refl; words = refl }
front_of [] (suc n) within before end = absurd (omega arith)
front_of (b ∷ bytes) zero within before end =
    let space : b ≡ 32 = end (omega arith) in
    record { parts = slice_split is_space bytes; split = rw space refl; words = rw space refl }
front_of (b ∷ bytes) (suc n) within before end =
    let letter : eqb b 32 ≡ false = ne_eqb b 32 (before 0 (omega arith)) in
    let rest : Front bytes n = front_of bytes n (omega arith) (λ k h. before (suc k) (omega arith)) (λ h. end (omega arith)) in
    record { parts = rest.parts; split = rw (letter, rest.split) refl; words = rest.words }

words_of_at : (line : List ℕ) (n : ℕ) → 0 < n → n ≤ length line → ((k : ℕ) → k < n → get_or line k 0 ≡ 32 → ⊥) → (n < length line → get_or line n 0 ≡ 32) → words_of line ≡ take n line ∷ words_of (drop n line)
words_of_at [] n some within before end = absurd (omega arith)
words_of_at (b ∷ bytes) zero some within before end = absurd (omega arith)
words_of_at (b ∷ bytes) (suc n) some within before end =
    let front : Front (b ∷ bytes) (suc n) = front_of (b ∷ bytes) (suc n) within before end in
    ap (filter is_word) front.split ∙ ap (λ (w : List (List ℕ)). (b ∷ take n bytes) ∷ w) front.words

-- the same, where these are the words of a longer line
pub words_at_front : (line rest : List ℕ) (n : ℕ) → words_of rest ≡ words_of line → 0 < length rest → (0 < length rest → get_or rest 0 0 ≡ 32 → ⊥) → n ≤ length rest → ((k : ℕ) → k < n → get_or rest k 0 ≡ 32 → ⊥) → (n < length rest → get_or rest n 0 ≡ 32) → words_of line ≡ take n rest ∷ words_of (drop n rest)
words_at_front line rest zero same some first within before end = absurd (first some (end some))
words_at_front line rest (suc n) same some first within before end =
    sym same ∙ words_of_at rest (suc n) (omega arith) within before end
