use Rattle.std.proofs.Common.{◌≡◌, ℕ, Bool, true, ◌&&◌, ltb, List, [], ◌∷◌, refl, rules}
use Rattle.std.specs.Str.{IsAscii, IsUtf8}
use Rattle.std.proofs.lemmas.Bool.{and_parts, ltb-true}
use Rattle.std.proofs.lemmas.Str.{IsUtf8-from_ascii}
use Rattle.std.proofs.lemmas.Str.Ascii.{IsAscii-nil, IsAscii-cons}
use Rattle.hex.specs.Hex.{encode_lower, lower_digits}
use Rattle.hex.proofs.HexLemmas.{IsAscii-encode_with}
use Rattle.usb_session_text.proofs.words.push_hex_part.Goals as goal

abbrev are_ascii : List ℕ → Bool
are_ascii [] = true
are_ascii (x ∷ xs) = ltb x 128 && are_ascii xs

IsAscii-from_test : (xs : List ℕ) → are_ascii xs ≡ true → IsAscii xs
IsAscii-from_test [] h = IsAscii-nil
IsAscii-from_test (x ∷ xs) h =
    let parts = and_parts (ltb x 128) (are_ascii xs) h in
    IsAscii-cons x xs (ltb-true x 128 parts.0) (IsAscii-from_test xs parts.1)

pub unwrap-requires-2 : goal.unwrap-requires-2
unwrap-requires-2 c =
    let written : c.encode_to_slice.new.output ≡ encode_lower c.args.bytes.now = search rules in
    let text : IsUtf8 c.encode_to_slice.new.output =
    IsUtf8-from_ascii _ (rw written (IsAscii-encode_with lower_digits c.args.bytes.now (IsAscii-from_test lower_digits refl))) in
    search rules
