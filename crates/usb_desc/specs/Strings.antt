-- String descriptors: USB 2.0, section 9.6.7.
use Rattle.std.specs.Prelude.{ℕ, ◌+◌, ◌*◌, Bool, ◌&&◌, ◌==◌, nat_le, List, [], ◌∷◌, length, drop, encode_utf8_all}
use Rattle.std.specs.Char.Utf16.{utf16_lossy_chars}
use Rattle.usb_desc.specs.Bytes.{length_field, type_field}

-- at least 2 bytes of type 3, of which the first counts all
abbrev pub is_string : List ℕ → Bool
is_string bytes = nat_le 2 (length bytes) && length_field bytes == length bytes && type_field bytes == 3

-- the little-endian words of a byte list; an odd last byte is left out
abbrev pub words : List ℕ → List ℕ
words [] = []
words (byte ∷ []) = []
words (low ∷ high ∷ bytes) = (low + 256 * high) ∷ words bytes

-- the words behind the first two bytes: units of UTF-16, or languages
abbrev pub words_of_string : List ℕ → List ℕ
words_of_string bytes = words (drop 2 bytes)

-- the text in UTF-8, with U+FFFD for each surrogate that has no partner
abbrev pub text : List ℕ → List ℕ
text bytes = encode_utf8_all (utf16_lossy_chars (words_of_string bytes))
