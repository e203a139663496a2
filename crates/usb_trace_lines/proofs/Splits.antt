-- Words with one space between them, split again.
use Rattle.std.proofs.Common.{◌≡◌, ℕ, eqb, leb, Bool, true, false, ◌&&◌, List, [], ◌∷◌, ◌++◌, filter, refl, ap, ◌∙◌, arith}
use Rattle.std.specs.List.{list_all, slice_split}
use Rattle.std.proofs.lemmas.Bool.{and_parts}
use Rattle.std.proofs.lemmas.Bool.Decides.{nat_tests}
use Rattle.usb_script_words.specs.Lines.{words_of, is_word, is_space}
use Rattle.usb_session_text.specs.Words.{spaced, line_of}

-- a printable character that is no space
abbrev pub is_visible : ℕ → Bool
is_visible b = leb 33 b && leb b 126

-- a word of such characters, at least one
pub record IsWord (word : List ℕ) : Type 0 where
  pub some : is_word word ≡ true
  pub visible : list_all is_visible word ≡ true

abbrev pub AreWords : List (List ℕ) → Type 0
AreWords [] = Unit {0}
AreWords (word ∷ words) = IsWord word × AreWords words

visible_no_space : (b : ℕ) → is_visible b ≡ true → is_space b ≡ false
visible_no_space b visible = grind (arith, nat_tests)

one_word : (word : List ℕ) → list_all is_visible word ≡ true → slice_split is_space word ≡ word ∷ []
one_word [] all = refl
one_word (b ∷ word) all =
    let parts = and_parts (is_visible b) (list_all is_visible word) all in
    let first : is_space b ≡ false = visible_no_space b parts.0 in
    let others : slice_split is_space word ≡ word ∷ [] = one_word word parts.1 in
    rw (first, others) refl

more_words : (word rest : List ℕ) → list_all is_visible word ≡ true → slice_split is_space (word ++ 32 ∷ rest) ≡ word ∷ slice_split is_space rest
more_words [] rest all = refl
more_words (b ∷ word) rest all =
    let parts = and_parts (is_visible b) (list_all is_visible word) all in
    let first : is_space b ≡ false = visible_no_space b parts.0 in
    let others : slice_split is_space (word ++ 32 ∷ rest) ≡ word ∷ slice_split is_space rest = more_words word rest parts.1 in
    rw (first, others) refl

pub words-spaced : (word : List ℕ) (words : List (List ℕ)) → IsWord word → AreWords words → words_of (spaced word words) ≡ word ∷ words
words-spaced word [] is are =
    let split = one_word word is.visible in
    let some = is.some in
    rw (split, some) refl
words-spaced word (next ∷ words) is are =
    let split = more_words word (spaced next words) is.visible in
    let some = is.some in
    let others : words_of (spaced next words) ≡ next ∷ words = words-spaced next words are.0 are.1 in
    rw (split, some) (ap (λ (l : List (List ℕ)). word ∷ l) others)

-- a line is its words, and LF
pub line-spaced : (word : List ℕ) (words : List (List ℕ)) → line_of word words ≡ spaced word words ++ 10 ∷ []
line-spaced word [] = refl
line-spaced word (next ∷ words) = rw (line-spaced next words) (search (Rattle.std.proofs.Common.append_assoc))
