-- A printed line: words with one space between them, and LF at the end.
use Rattle.std.specs.Prelude.{ℕ, ◌/◌, ◌%◌, List, [], ◌∷◌, ◌++◌, codes}
use Rattle.hex.specs.Hex.{encode_lower}

-- what stands behind a word of a line, whose last word is followed by LF
abbrev pub after_word : List (List ℕ) → List ℕ
after_word [] = 10 ∷ []
after_word (word ∷ words) = 32 ∷ (word ++ after_word words)

-- a line of these words
abbrev pub line_of : List ℕ → List (List ℕ) → List ℕ
line_of word words = word ++ after_word words

-- bytes as hexadecimal digits in lower case, or a dash for none
unfoldable pub hex_word : List ℕ → List ℕ
hex_word [] = codes "-"
hex_word (b ∷ bytes) = encode_lower (b ∷ bytes)

-- a byte as two hexadecimal digits, and a number of 16 bits as four
abbrev pub two_digits : ℕ → List ℕ
two_digits byte = encode_lower (byte ∷ [])

abbrev pub four_digits : ℕ → List ℕ
four_digits number = encode_lower (number / 256 ∷ number % 256 ∷ [])

-- words with one space between them, inside a line
abbrev pub spaced : List ℕ → List (List ℕ) → List ℕ
spaced word [] = word
spaced word (next ∷ words) = word ++ 32 ∷ spaced next words

-- a part of a line, with a space before it
abbrev pub part : List ℕ → List ℕ
part words = 32 ∷ words

-- a class with its subclass and protocol
unfoldable pub class_code : ℕ → ℕ → ℕ → List ℕ
class_code class subclass protocol = spaced (two_digits class) (two_digits subclass ∷ two_digits protocol ∷ [])
