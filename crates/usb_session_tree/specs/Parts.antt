-- Parts of the lines of enumeration.
use Rattle.std.specs.Prelude.{ℕ, List, [], ◌∷◌, ◌++◌, codes, Option, Some, None}
use Rattle.usb_session_text.specs.Words.{hex_word}

-- words with a colon between them
abbrev pub with_colons : List ℕ → List (List ℕ) → List ℕ
with_colons word [] = word
with_colons word (next ∷ words) = word ++ 58 ∷ with_colons next words

-- a string as the digits of its UTF-8, or that there is none
abbrev pub string_word : Option (List ℕ) → List ℕ
string_word None = codes "none"
string_word (Some text) = hex_word text

-- a name as it stands, or that there is none
abbrev pub name_word : Option (List ℕ) → List ℕ
name_word None = codes "none"
name_word (Some name) = name
