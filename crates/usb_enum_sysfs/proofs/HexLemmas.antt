-- The digits of one more byte.
use Rattle.std.proofs.Common.{◌≡◌, ℕ, zero, suc, ◌<◌, ◌/◌, ◌%◌, true, List, [], ◌∷◌, ◌++◌, slice_index, refl, ap, arith}
use Rattle.std.specs.Prelude.{nat_lt, encode_utf8}
use Rattle.std.specs.List.{list_all}
use Rattle.std.proofs.lemmas.Bool.{and_parts}
use Rattle.std.proofs.lemmas.Bool.Decides.{nat_tests}
use Rattle.std.proofs.lemmas.Str.{encode_ascii}
use Rattle.hex.specs.Hex.{encode_lower, encode_with, lower_digits}

small_items : (xs : List ℕ) → list_all (λ c. nat_lt c 128) xs ≡ true → (k : ℕ) → slice_index xs k < 128
small_items [] all k = omega arith
small_items (x ∷ xs) all zero = let first = (and_parts (nat_lt x 128) (list_all (λ c. nat_lt c 128) xs) all).0 in grind (arith, nat_tests)
small_items (x ∷ xs) all (suc k) = small_items xs (and_parts (nat_lt x 128) (list_all (λ c. nat_lt c 128) xs) all).1 k

encode-digit : (value : ℕ) → encode_utf8 (slice_index lower_digits value) ≡ slice_index lower_digits value ∷ []
encode-digit value = encode_ascii (slice_index lower_digits value) (small_items lower_digits refl value)

encode_lower-push : (bytes : List ℕ) (byte : ℕ) → encode_lower (bytes ++ byte ∷ []) ≡ encode_lower bytes ++ slice_index lower_digits (byte / 16) ∷ slice_index lower_digits (byte % 16) ∷ []
unfolding encode_with
encode_lower-push [] byte = refl
encode_lower-push (b ∷ bytes) byte = ap (λ more. slice_index lower_digits (b / 16) ∷ slice_index lower_digits (b % 16) ∷ more) (encode_lower-push bytes byte)

-- as two characters write them
pub encode_lower-more : (bytes : List ℕ) (byte high low : ℕ) → high ≡ slice_index lower_digits (byte / 16) → low ≡ slice_index lower_digits (byte % 16) → encode_lower (bytes ++ byte ∷ []) ≡ encode_lower bytes ++ (encode_utf8 high ++ encode_utf8 low)
encode_lower-more bytes byte high low is_high is_low =
    rw (is_high, is_low, encode-digit (byte / 16), encode-digit (byte % 16)) (encode_lower-push bytes byte)
