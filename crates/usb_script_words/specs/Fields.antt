-- The fields of a line: exactly so many words, each of which spells its field.
use Rattle.std.specs.Prelude.{ℕ, List, [], ◌∷◌, map, Option, Some, None}
use Rattle.std.specs.Borrow.{Bor}
use Rattle.usb_script_words.specs.Words.{◌>>=◌}

-- the bytes of a word
abbrev pub Word : Type 0
Word = List ℕ

-- the words that a slice of slices holds
abbrev pub texts : List (Bor Word) → List Word
texts words = map (λ word. word.now) words

-- so many words and no more: none, one, and so on
unfoldable pub no_word : List Word → Option (Unit {0})
no_word [] = Some tt
no_word words = None

unfoldable pub one_word : List Word → Option Word
one_word (a ∷ []) = Some a
one_word words = None

unfoldable pub two_words : List Word → Option (Word × Word)
two_words (a ∷ b ∷ []) = Some (a, b)
two_words words = None

unfoldable pub three_words : List Word → Option (Word × Word × Word)
three_words (a ∷ b ∷ c ∷ []) = Some (a, b, c)
three_words words = None

unfoldable pub four_words : List Word → Option (Word × Word × Word × Word)
four_words (a ∷ b ∷ c ∷ d ∷ []) = Some (a, b, c, d)
four_words words = None

unfoldable pub six_words : List Word → Option (Word × Word × Word × Word × Word × Word)
six_words (a ∷ b ∷ c ∷ d ∷ e ∷ f ∷ []) = Some (a, b, c, d, e, f)
six_words words = None

-- one word, and those behind it
unfoldable pub one_and_more : List Word → Option (Word × List Word)
one_and_more (a ∷ more) = Some (a, more)
one_and_more words = None

-- two words, and those behind them
unfoldable pub two_and_more : List Word → Option (Word × Word × List Word)
two_and_more (a ∷ b ∷ more) = Some (a, b, more)
two_and_more words = None

-- three words, and those behind them
unfoldable pub three_and_more : List Word → Option (Word × Word × Word × List Word)
three_and_more (a ∷ b ∷ c ∷ more) = Some (a, b, c, more)
three_and_more words = None

-- one field to three, each with its own reading, and no more
unfoldable pub one_field : {A : Type 0} → (Word → Option A) → List Word → Option A
one_field first words = one_word words >>= first

unfoldable pub two_fields : {A B : Type 0} → (Word → Option A) → (Word → Option B) → List Word → Option (A × B)
two_fields first second words = do
  w ← two_words words
  a ← first w.0
  b ← second w.1
  Some (a, b)

unfoldable pub three_fields : {A B C : Type 0} → (Word → Option A) → (Word → Option B) → (Word → Option C) → List Word → Option (A × B × C)
three_fields first second third words = do
  w ← three_words words
  a ← first w.0
  b ← second w.1
  c ← third w.2
  Some (a, b, c)

-- `none`, `one` to `four`, and `six`: exactly so many words, each with its own reading, and what is made of the
-- fields that they spell
abbrev pub none : {R : Type 0} → R → List Word → Option R
none made words = no_word words >>= λ _. Some made

abbrev pub one : {A R : Type 0} → (A → R) → (Word → Option A) → List Word → Option R
one make first words = do
  a ← one_field first words
  Some (make a)

abbrev pub two : {A B R : Type 0} → (A → B → R) → (Word → Option A) → (Word → Option B) → List Word → Option R
two make first second words = do
  x ← two_fields first second words
  Some (make x.0 x.1)

abbrev pub three : {A B C R : Type 0} → (A → B → C → R) → (Word → Option A) → (Word → Option B) → (Word → Option C) → List Word → Option R
three make first second third words = do
  x ← three_fields first second third words
  Some (make x.0 x.1 x.2)

abbrev pub four : {A B C D R : Type 0} → (A → B → C → D → R) → (Word → Option A) → (Word → Option B) → (Word → Option C) → (Word → Option D) → List Word → Option R
four make first second third fourth words = do
  w ← four_words words
  a ← first w.0
  b ← second w.1
  c ← third w.2
  d ← fourth w.3
  Some (make a b c d)

abbrev pub six : {A B C D E F R : Type 0} → (A → B → C → D → E → F → R) → (Word → Option A) → (Word → Option B) → (Word → Option C) → (Word → Option D) → (Word → Option E) → (Word → Option F) → List Word → Option R
six make first second third fourth fifth sixth words = do
  w ← six_words words
  a ← first w.0
  b ← second w.1
  c ← third w.2
  d ← fourth w.3
  e ← fifth w.4
  f ← sixth w.5
  Some (make a b c d e f)
