-- Words that are read as what they spell.
use Rattle.std.proofs.Common.{◌≡◌, ℕ, ◌+◌, ◌-◌, ◌*◌, ◌/◌, ◌%◌, ◌^◌, ◌<◌, ◌≤◌, eqb, leb, Bool, true, false, List, [], ◌∷◌, ◌++◌, length, decimal, slice_index, codes, zero, suc, Option, Some, None, if◌then◌else◌, refl, ap, ◌∙◌, arith}
use Rattle.std.specs.List.{list_all}
use Rattle.std.specs.Str.{bytes_eq}
use Rattle.std.specs.Char.{is_ascii_digit}
use Rattle.std.proofs.lemmas.Bool.{and_parts, and_right}
use Rattle.std.proofs.lemmas.Bool.Decides.{nat_tests}
use Rattle.std.proofs.lemmas.Fmt.{decimal_by_steps, length-decimal-le}
use Rattle.std.proofs.lemmas.List.Sums.{list_all-from_AllPass}
use Rattle.hex.specs.Hex.{IsBytes, encode_lower, encode_with, hex_digit_value, is_hex_digit, lower_digits}
use Rattle.hex.proofs.HexLemmas.{decode_of-encode_lower, decode_of-ok, IsDigits-lower_digits}
use Rattle.usb_script_words.specs.Lines.{is_word}
use Rattle.usb_script_words.specs.Words.{digits_after, hex_byte_of, errno_of, number_of, number_between, decimal_of}
use Rattle.usb_session_text.specs.Words.{hex_word, two_digits}
use Rattle.usb_trace_lines.specs.Readings.{long_number_of, bytes_within}
use Rattle.usb_trace_lines.proofs.Splits.{is_visible, IsWord}

-- ---- numbers

-- the digits behind a number that was read
abbrev after_some : Option ℕ → List ℕ → Option ℕ
after_some None more = None
after_some (Some n) more = digits_after n more

step : (b : Bool) (o p q : Option ℕ) (n : ℕ) → (if b then o else None) ≡ Some n → (o ≡ Some n → p ≡ q) → (if b then p else None) ≡ q
step true o p q n is on = on is
step false o p q n is on = absurd (let e = is in cc)

digits_after-append : (k : ℕ) (ds more : List ℕ) (n : ℕ) → digits_after k ds ≡ Some n → digits_after k (ds ++ more) ≡ digits_after n more
digits_after-append k [] more n is = ap (λ (o : Option ℕ). after_some o more) is
digits_after-append k (d ∷ ds) more n is =
    step (is_ascii_digit d) (digits_after (k * 10 + (d - 48)) ds) (digits_after (k * 10 + (d - 48)) (ds ++ more)) (digits_after n more) n is (digits_after-append (k * 10 + (d - 48)) ds more n)

visible-append : (xs ys : List ℕ) → list_all is_visible xs ≡ true → list_all is_visible ys ≡ true → list_all is_visible (xs ++ ys) ≡ true
visible-append [] ys front back = back
visible-append (x ∷ xs) ys front back =
    let parts = and_parts (is_visible x) (list_all is_visible xs) front in
    let first = parts.0 in
    let others : list_all is_visible (xs ++ ys) ≡ true = visible-append xs ys parts.1 back in
    rw (first, others) refl

word-append : (xs ys : List ℕ) → is_word xs ≡ true → is_word (xs ++ ys) ≡ true
word-append [] ys some = absurd (let e = some in cc)
word-append (x ∷ xs) ys some = refl

fits : (m n : ℕ) → m ≤ n → leb m n ≡ true
fits m n h = grind (arith, nat_tests)

-- the digits of a number are a word, which spells it
pub record IsNumber (n : ℕ) (text : List ℕ) : Type 0 where
  pub word : IsWord text
  pub spells : digits_after 0 text ≡ Some n

one_digit : (n : ℕ) → n < 10 → IsNumber n ((48 + n) ∷ [])
one_digit n small =
    let digit : is_ascii_digit (48 + n) ≡ true = grind (arith, nat_tests) in
    let visible : is_visible (48 + n) ≡ true = grind (arith, nat_tests) in
    let value : 0 * 10 + (48 + n - 48) ≡ n = omega arith in
    record { word = record { some = refl; visible = rw visible refl }; spells = rw digit (ap (λ (x : ℕ). Some x) value) }

more_digits : (n : ℕ) (ds : List ℕ) → 10 ≤ n → IsNumber (n / 10) ds → IsNumber n (ds ++ ((48 + n % 10) ∷ []))
more_digits n ds large is =
    let digit : is_ascii_digit (48 + n % 10) ≡ true = grind (arith, nat_tests) in
    let visible : is_visible (48 + n % 10) ≡ true = grind (arith, nat_tests) in
    let value : n / 10 * 10 + (48 + n % 10 - 48) ≡ n = omega arith in
    record {
      word = record { some = word-append ds _ is.word.some; visible = visible-append ds _ is.word.visible (rw visible refl) };
      spells = digits_after-append 0 ds _ (n / 10) is.spells ∙ rw digit (ap (λ (x : ℕ). Some x) value);
    }

pub decimal-number : (n : ℕ) → n < 2 ^ 64 → IsNumber n (decimal n)
decimal-number n small = decimal_by_steps IsNumber one_digit more_digits n small

-- a number of 64 bits
pub ticket-read : (n : ℕ) → n < 2 ^ 64 → long_number_of (decimal n) ≡ Some n
unfolding long_number_of
ticket-read n small =
    let short : leb (length (decimal n)) 20 ≡ true = fits _ 20 (length-decimal-le 20 n (omega arith) (omega arith) small) in
    let spells = (decimal-number n small).spells in
    let inside : leb n 18446744073709551615 ≡ true = fits n 18446744073709551615 (omega arith) in
    rw (short, spells, inside) refl

-- a number of at most 19 digits
pub number-read : (most n : ℕ) → n ≤ most → most < 10000000000000000000 → number_of most (decimal n) ≡ Some n
unfolding number_of decimal_of
number-read most n within few =
    let small : n < 2 ^ 64 = omega arith in
    let number = decimal-number n small in
    let short : leb (length (decimal n)) 19 ≡ true = fits _ 19 (length-decimal-le 19 n (omega arith) (omega arith) small) in
    let some = number.word.some in
    let spells = number.spells in
    let inside : leb n most ≡ true = fits n most within in
    rw (some, short, spells, inside) refl

not_dash : (t : Bool) (b n : ℕ) → is_ascii_digit b ≡ t → digits_after 0 (b ∷ []) ≡ Some n → eqb b 45 ≡ false
not_dash true b n digit spells = grind (arith, nat_tests)
not_dash false b n digit spells = absurd (let e = rw digit at spells in cc)

-- a dash is no number
pub number-no_dash : (text : List ℕ) (n : ℕ) → digits_after 0 text ≡ Some n → bytes_eq text (codes "-") ≡ false
number-no_dash [] n spells = refl
number-no_dash (b ∷ []) n spells = let other = not_dash (is_ascii_digit b) b n refl spells in rw other refl
number-no_dash (b ∷ c ∷ text) n spells = and_right (eqb b 45) false refl

pub errno-read : (n : ℕ) → 1 ≤ n → n ≤ 4095 → errno_of (decimal n) ≡ Some n
unfolding errno_of number_between decimal_of
errno-read n least most =
    let small : n < 2 ^ 64 = omega arith in
    let number = decimal-number n small in
    let short : leb (length (decimal n)) 19 ≡ true = fits _ 19 (length-decimal-le 19 n (omega arith) (omega arith) small) in
    let some = number.word.some in
    let spells = number.spells in
    let inside : leb n 4095 ≡ true = fits n 4095 most in
    let positive : leb 1 n ≡ true = fits 1 n least in
    rw (some, short, spells, inside, positive) refl

-- ---- hexadecimal digits

digit_visible : (b : ℕ) → is_hex_digit b ≡ true → is_visible b ≡ true
digit_visible b digit = grind (arith, nat_tests)

digits_visible : (word : List ℕ) → list_all is_hex_digit word ≡ true → list_all is_visible word ≡ true
digits_visible [] all = refl
digits_visible (b ∷ word) all =
    let parts = and_parts (is_hex_digit b) (list_all is_hex_digit word) all in
    let first : is_visible b ≡ true = digit_visible b parts.0 in
    let others : list_all is_visible word ≡ true = digits_visible word parts.1 in
    rw (first, others) refl

digits : (bytes : List ℕ) → IsBytes bytes → list_all is_visible (encode_lower bytes) ≡ true
digits bytes are =
    digits_visible (encode_lower bytes)
    (list_all-from_AllPass is_hex_digit (encode_lower bytes) (decode_of-ok (encode_lower bytes) bytes (decode_of-encode_lower bytes are)).1)

has_digits : (b : ℕ) (bytes : List ℕ) → is_word (encode_lower (b ∷ bytes)) ≡ true
unfolding encode_with
has_digits b bytes = refl

single : (b : ℕ) → b < 256 → IsBytes (b ∷ [])
single b small zero = small
single b small (suc i) = omega arith

pub byte-word : (b : ℕ) → b < 256 → IsWord (two_digits b)
byte-word b small = record { some = has_digits b []; visible = digits (b ∷ []) (single b small) }

pub byte-read : (b : ℕ) → b < 256 → hex_byte_of (two_digits b) ≡ Some b
unfolding hex_byte_of encode_with
byte-read b small =
    let high : hex_digit_value (slice_index lower_digits (b / 16)) ≡ Some (b / 16) = IsDigits-lower_digits (b / 16) (omega arith) in
    let low : hex_digit_value (slice_index lower_digits (b % 16)) ≡ Some (b % 16) = IsDigits-lower_digits (b % 16) (omega arith) in
    let whole : b / 16 * 16 + b % 16 ≡ b = omega arith in
    rw (high, low) (ap (λ (x : ℕ). Some x) whole)

pub bytes-word : (bytes : List ℕ) → IsBytes bytes → IsWord (hex_word bytes)
unfolding hex_word
bytes-word [] are = record { some = refl; visible = refl }
bytes-word (b ∷ bytes) are = record { some = has_digits b bytes; visible = digits (b ∷ bytes) are }

no_dash : (a b : ℕ) (word : List ℕ) → bytes_eq (a ∷ b ∷ word) (codes "-") ≡ false
no_dash a b word = and_right (eqb a 45) false refl

pub bytes-read : (most : ℕ) (bytes : List ℕ) → IsBytes bytes → length bytes ≤ most → bytes_within most (hex_word bytes) ≡ Some bytes
unfolding hex_word bytes_within
bytes-read most [] are few = refl
bytes-read most (b ∷ bytes) are few =
    let dash : bytes_eq (encode_lower (b ∷ bytes)) (codes "-") ≡ false = unfold encode_with in no_dash (slice_index lower_digits (b / 16)) (slice_index lower_digits (b % 16)) (encode_lower bytes) in
    let decoded = decode_of-encode_lower (b ∷ bytes) are in
    let inside : leb (length (b ∷ bytes)) most ≡ true = fits (length (b ∷ bytes)) most few in
    rw (dash, decoded, inside) refl
