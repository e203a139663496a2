-- What std's reading of a number says, as a function of the text.
use Rattle.std.proofs.Common.{◌≡◌, ℕ, ◌+◌, ◌<◌, ◌≤◌, ◌^◌, Bool, true, false, List, [], ◌∷◌, length, drop, get_or, Result, Ok, Err, Some, None, refl, sym, ap, ◌∙◌, arith, cond}
use Rattle.std.specs.Prelude.{◌&&◌, nat_lt}
use Rattle.std.specs.Result.{result_ok}
use Rattle.std.specs.Option.{option_and_then}
use Rattle.std.specs.List.{list_all}
use Rattle.std.specs.Char.{digit_value}
use Rattle.std.specs.Str.Parse.{AllDigits, IsNumeral, ParsesUnsigned, digits_value, without_leading_plus}
use Rattle.std.proofs.lemmas.List.{at_drop_more, at_drop_all}
use Rattle.std.proofs.lemmas.Bool.{and_parts, and_from}
use Rattle.std.proofs.lemmas.Bool.Decides.{nat_tests}
use Rattle.usb_enum_sysfs.specs.Numbers.{is_digit, is_numeral, number_of_digits, number, with_part, version_after}

all_digits : (radix : ℕ) (digits : List ℕ) → AllDigits radix digits → list_all (is_digit radix) digits ≡ true
all_digits radix [] all = refl
all_digits radix (c ∷ cs) all =
    let first : digit_value c < radix = all.0 in
    and_from (is_digit radix c) (list_all (is_digit radix) cs) (grind (arith, nat_tests)) (all_digits radix cs all.1)

digits_of_all : (radix : ℕ) (digits : List ℕ) → list_all (is_digit radix) digits ≡ true → AllDigits radix digits
digits_of_all radix [] all = tt
digits_of_all radix (c ∷ cs) all =
    let parts = and_parts (is_digit radix c) (list_all (is_digit radix) cs) all in
    let first : is_digit radix c ≡ true = parts.0 in
    let small : digit_value c < radix = grind (arith, nat_tests) in
    (small, digits_of_all radix cs parts.1)

below_test : (m n : ℕ) → m < n → nat_lt m n ≡ true
below_test m n h = grind (arith, nat_tests)

below_from_test : (m n : ℕ) → nat_lt m n ≡ true → m < n
below_from_test m n h = grind (arith, nat_tests)

-- digits that are a number
number_read : (radix limit : ℕ) (digits : List ℕ) → IsNumeral radix digits → digits_value radix digits < limit → number_of_digits radix limit digits ≡ Some (digits_value radix digits)
number_read radix limit digits numeral small =
    let all = and_from (nat_lt 0 (length digits)) (list_all (is_digit radix) digits) (below_test _ _ numeral.0) (all_digits radix digits numeral.1) in
    let passes = and_from (is_numeral radix digits) (nat_lt (digits_value radix digits) limit) all (below_test _ _ small) in
    ap (λ b. cond b (Some (digits_value radix digits)) None) passes

-- and digits that are none
number_not_read : (radix limit : ℕ) (digits : List ℕ) → (IsNumeral radix digits × (digits_value radix digits < limit) → ⊥) → number_of_digits radix limit digits ≡ None
number_not_read radix limit digits refused = by (is_numeral radix digits && nat_lt (digits_value radix digits) limit) refl
  where
    by : (b : Bool) → (is_numeral radix digits && nat_lt (digits_value radix digits) limit) ≡ b → cond b (Some (digits_value radix digits)) None ≡ None
    by false e = refl
    by true e =
        let parts = and_parts (is_numeral radix digits) (nat_lt (digits_value radix digits) limit) e in
        let numeral = and_parts (nat_lt 0 (length digits)) (list_all (is_digit radix) digits) parts.0 in
        absurd (refused ((below_from_test _ _ numeral.0, digits_of_all radix digits numeral.1), below_from_test _ _ parts.1))

-- what `from_str_radix` and `parse` answer is `number`
pub number_from_parse : {E : Type 0} (bits radix limit : ℕ) (text : List ℕ) (r : Result ℕ E) → limit ≡ 2 ^ bits → ParsesUnsigned bits radix text r → result_ok r ≡ number radix limit text
unfolding number
number_from_parse bits radix limit text (Ok x) e h =
    rw (e, h.1) (sym (number_read radix (2 ^ bits) (without_leading_plus text) h.0.0 h.0.1))
number_from_parse bits radix limit text (Err x) e h =
    rw e (sym (number_not_read radix (2 ^ bits) (without_leading_plus text) h))

-- the next part of a version
version_turn : (parts : List (List ℕ)) (version i : ℕ) (part : List ℕ) → (i < length parts) × (part ≡ get_or parts i part) → version_after version (drop i parts) ≡ option_and_then (λ n. version_after (with_part version n) (drop (i + 1) parts)) (number 16 65536 part)
version_turn parts version i part at =
    at_drop_more (version_after version) parts i part at.0 ∙ ap (λ p. option_and_then (λ n. version_after (with_part version n) (drop (i + 1) parts)) (number 16 65536 p)) (sym at.1)

-- is no number
pub version_refused : (parts : List (List ℕ)) (version i : ℕ) (part : List ℕ) → (i < length parts) × (part ≡ get_or parts i part) → number 16 65536 part ≡ None → version_after version (drop i parts) ≡ None
version_refused parts version i part at none =
    version_turn parts version i part at ∙ ap (λ o. option_and_then (λ n. version_after (with_part version n) (drop (i + 1) parts)) o) none

-- or is one
pub version_goes : (parts : List (List ℕ)) (version i : ℕ) (part : List ℕ) (n next j : ℕ) → (i < length parts) × (part ≡ get_or parts i part) → number 16 65536 part ≡ Some n → next ≡ with_part version n → j ≡ i + 1 → version_after next (drop j parts) ≡ version_after version (drop i parts)
version_goes parts version i part n next j at some is_next is_more =
    rw (is_next, is_more) (sym (version_turn parts version i part at ∙ ap (λ o. option_and_then (λ m. version_after (with_part version m) (drop (i + 1) parts)) o) some))

-- or there is none
pub version_end : (parts : List (List ℕ)) (version i : ℕ) → length parts ≤ i → version_after version (drop i parts) ≡ Some version
version_end parts version i past = at_drop_all (version_after version) parts i past
