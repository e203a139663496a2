-- What a word spells: a number, a time, a name, a byte, some bytes, or a kind of endpoint or of call.
use Rattle.std.specs.Prelude.{ℕ, ◌+◌, ◌*◌, ◌-◌, ◌==◌, ◌&&◌, nat_le, Bool, false, List, [], ◌∷◌, length, codes, Option, Some, None, Result, Ok, Err, if◌then◌else◌, option_and_then}
use Rattle.std.specs.Char.{is_ascii_digit}
use Rattle.std.specs.Str.{bytes_eq}
use Rattle.hex.specs.Hex.{decode_of, hex_digit_value}
use Rattle.hex.specs.declared.error.FromHexError.{FromHexError}
use Rattle.usb_kernel_devices.specs.declared.step.KernelCall.{KernelCall}
use Rattle.usb_kernel_devices.specs.declared.step.KernelCall.TheVariants as call
use Rattle.usb_script_words.specs.declared.endpoint_kind.EndpointKind.{EndpointKind}
use Rattle.usb_script_words.specs.declared.endpoint_kind.EndpointKind.TheVariants.{BulkIn, BulkOut, InterruptIn, InterruptOut}
use Rattle.usb_script_words.specs.Lines.{is_word}

-- one reading after another, each of which may refuse
infixl 10 ◌>>=◌
abbrev pub ◌>>=◌ : {A B : Type 0} → Option A → (A → Option B) → Option B
o >>= f = option_and_then f o

-- the number that decimal digits make behind those read so far
abbrev pub digits_after : ℕ → List ℕ → Option ℕ
digits_after n [] = Some n
digits_after n (b ∷ bytes) = if is_ascii_digit b then digits_after (n * 10 + (b - 48)) bytes else None

-- 1 to 19 decimal digits, of which the first may be zeros
unfoldable pub decimal_of : List ℕ → Option ℕ
decimal_of word = if is_word word && nat_le (length word) 19 then digits_after 0 word else None

-- a number that is at most this one
abbrev pub at_most : ℕ → ℕ → Option ℕ
at_most most n = if nat_le n most then Some n else None

-- a decimal number up to this one
unfoldable pub number_of : ℕ → List ℕ → Option ℕ
number_of most word = do
  n ← decimal_of word
  at_most most n

-- a number that is at least this one
abbrev pub at_least : ℕ → ℕ → Option ℕ
at_least least n = if nat_le least n then Some n else None

-- a number from this one up to that one
abbrev pub between : ℕ → ℕ → ℕ → Option ℕ
between least most n = at_most most n >>= at_least least

-- a decimal number from this one up to that one
unfoldable pub number_between : ℕ → ℕ → List ℕ → Option ℕ
number_between least most word = do
  n ← decimal_of word
  between least most n

-- whether of several digits the first is 0 (48 in ASCII)
abbrev pub has_leading_zero : List ℕ → Bool
has_leading_zero (digit ∷ next ∷ digits) = digit == 48
has_leading_zero digits = false

-- TIME: a number of nanoseconds up to 10 ^ 18, or `max`, the greatest one of 64 bits
unfoldable pub time_of : List ℕ → Option ℕ
time_of word = if bytes_eq word (codes "max") then Some 18446744073709551615 else number_of 1000000000000000000 word

-- 0 to 63, with no leading zero
unfoldable pub index_of : List ℕ → Option ℕ
index_of digits = if has_leading_zero digits then None else number_of 63 digits

-- the number of a name: its letter, and 0 to 63 behind it
unfoldable pub name_of : ℕ → List ℕ → Option ℕ
name_of letter [] = None
name_of letter (b ∷ digits) = if b == letter then index_of digits else None

-- HH: a byte as two hexadecimal digits, in either case
unfoldable pub hex_byte_of : List ℕ → Option ℕ
hex_byte_of (high ∷ low ∷ []) = do
  h ← hex_digit_value high
  l ← hex_digit_value low
  Some (h * 16 + l)
hex_byte_of word = None

-- HHHH: a number of 16 bits as four hexadecimal digits, in either case
unfoldable pub hex_word_of : List ℕ → Option ℕ
hex_word_of (a ∷ b ∷ c ∷ d ∷ []) = do
  high ← hex_byte_of (a ∷ b ∷ [])
  low ← hex_byte_of (c ∷ d ∷ [])
  Some (high * 256 + low)
hex_word_of word = None

-- the bytes that were read, if they were
abbrev pub or_none : Result (List ℕ) FromHexError → Option (List ℕ)
or_none (Ok bytes) = Some bytes
or_none (Err e) = None

-- bytes that are at most so many
abbrev pub at_most_bytes : ℕ → List ℕ → Option (List ℕ)
at_most_bytes most bytes = if nat_le (length bytes) most then Some bytes else None

-- BYTES: a dash for none, or pairs of hexadecimal digits in either case, at most 65536 of them
unfoldable pub bytes_of : List ℕ → Option (List ℕ)
bytes_of word =
    if bytes_eq word (codes "-") then Some []
    else (or_none (decode_of word) >>= at_most_bytes 65536)

-- KIND: the kind of an endpoint
unfoldable pub kind_of : List ℕ → Option EndpointKind
kind_of word =
    if bytes_eq word (codes "bulk-in") then Some BulkIn
    else if bytes_eq word (codes "bulk-out") then Some BulkOut
    else if bytes_eq word (codes "int-in") then Some InterruptIn
    else if bytes_eq word (codes "int-out") then Some InterruptOut
    else None

-- ERRNO: the number of an error, from 1 to 4095
unfoldable pub errno_of : List ℕ → Option ℕ
errno_of word = number_between 1 4095 word

-- R: how many bytes a read wants at most, from 1 to 65536
unfoldable pub read_length_of : List ℕ → Option ℕ
read_length_of word = number_between 1 65536 word

-- CALL: the kind of call that a refusal is for
unfoldable pub call_of : List ℕ → Option KernelCall
call_of word =
    if bytes_eq word (codes "open") then Some call.OpenDevice
    else if bytes_eq word (codes "readdesc") then Some call.ReadDesc
    else if bytes_eq word (codes "getconfig") then Some call.GetConfig
    else if bytes_eq word (codes "setconfig") then Some call.SetConfig
    else if bytes_eq word (codes "reset") then Some call.Reset
    else if bytes_eq word (codes "claim") then Some call.Claim
    else if bytes_eq word (codes "detachclaim") then Some call.DetachClaim
    else if bytes_eq word (codes "detach") then Some call.Detach
    else if bytes_eq word (codes "attach") then Some call.Attach
    else if bytes_eq word (codes "alt") then Some call.Alt
    else if bytes_eq word (codes "halt") then Some call.Halt
    else if bytes_eq word (codes "speed") then Some call.Speed
    else if bytes_eq word (codes "submit") then Some call.Submit
    else None
