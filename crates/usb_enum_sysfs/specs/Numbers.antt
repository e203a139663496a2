-- Numbers in the texts of attributes, read as Rust's std reads them.
use Rattle.std.specs.Prelude.{ℕ, ◌*◌, ◌%◌, ◌&&◌, ◌==◌, nat_lt, nat_eq, Bool, List, [], ◌∷◌, length, drop, codes, bit_or, Option, Some, None, option_and_then, if◌then◌else◌}
use Rattle.std.specs.List.{list_all, slice_split, starts_with}
use Rattle.std.specs.Char.{digit_value}
use Rattle.std.specs.Str.Parse.{digits_value, without_leading_plus}

-- a digit in the radix
abbrev pub is_digit : ℕ → ℕ → Bool
is_digit radix c = nat_lt (digit_value c) radix

-- one digit or more, and nothing else
abbrev pub is_numeral : ℕ → List ℕ → Bool
is_numeral radix digits = nat_lt 0 (length digits) && list_all (is_digit radix) digits

-- the number that digits write, where it is below the limit
abbrev pub number_of_digits : ℕ → ℕ → List ℕ → Option ℕ
number_of_digits radix limit digits =
    if is_numeral radix digits && nat_lt (digits_value radix digits) limit then Some (digits_value radix digits) else None

-- the same, where a plus may stand in front
unfoldable pub number : ℕ → ℕ → List ℕ → Option ℕ
number radix limit text = number_of_digits radix limit (without_leading_plus text)

-- a decimal number of 8 bits
abbrev pub decimal_byte : List ℕ → Option ℕ
decimal_byte text = number 10 256 text

-- the text without the prefix of hexadecimal numbers
abbrev pub without_prefix : List ℕ → List ℕ
without_prefix text = if starts_with nat_eq text (codes "0x") then drop 2 text else text

-- a hexadecimal number of 8 or 16 bits, maybe with its prefix
abbrev pub hex_byte : List ℕ → Option ℕ
hex_byte text = number 16 256 (without_prefix text)

abbrev pub hex_word : List ℕ → Option ℕ
hex_word text = number 16 65536 (without_prefix text)

-- one more part of a version: the low 16 bits of the last number's 256-fold, and the part's bits
abbrev pub with_part : ℕ → ℕ → ℕ
with_part version part = bit_or (version * 256 % 65536) part

abbrev pub version_after : ℕ → List (List ℕ) → Option ℕ
version_after version [] = Some version
version_after version (part ∷ parts) = option_and_then (λ n. version_after (with_part version n) parts) (number 16 65536 part)

-- the version of USB of a device (bcdUSB: USB 2.0, section 9.6.1), as its attribute `version` shows it: hexadecimal parts, cut
-- at each dot
abbrev pub version_word : List ℕ → Option ℕ
version_word text = version_after 0 (slice_split (λ b. b == 46) text)
