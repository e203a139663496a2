-- Digits appended to a line.
use Rattle.std.proofs.Common.{◌≡◌, ℕ, ◌+◌, ◌*◌, ◌/◌, ◌%◌, List, [], ◌∷◌, ◌++◌, length, take, drop, slice_index, append_assoc, refl, ap, ◌∙◌, length-append}
use Rattle.std.proofs.lemmas.List.{take-append-drop}
use Rattle.hex.specs.Hex.{encode_with, encode_lower, lower_digits}
use Rattle.hex.proofs.HexLemmas.{length-encode_with}
use Rattle.usb_trace_lines.specs.Written.{LinesState, begun_with}

encode_with-append : (t xs ys : List ℕ) → encode_with t (xs ++ ys) ≡ encode_with t xs ++ encode_with t ys
unfolding encode_with
encode_with-append t [] ys = refl
encode_with-append t (x ∷ xs) ys =
    ap (λ l. slice_index t (x / 16) ∷ slice_index t (x % 16) ∷ l) (encode_with-append t xs ys)

-- how long the line is then
pub longer : (s new : LinesState) (bytes : List ℕ) → new ≡ begun_with s (encode_lower bytes) → length new.begun ≡ length s.begun + 2 * length bytes
longer s new bytes is =
    rw is (length-append s.begun (encode_lower bytes) ∙ ap (λ n. length s.begun + n) (length-encode_with lower_digits bytes))

-- the digits of one part more
pub one_more : (s after : LinesState) (left part behind : List ℕ) → after ≡ begun_with s (encode_lower part) → part ≡ take 32 left → behind ≡ drop 32 left → begun_with after (encode_lower behind) ≡ begun_with s (encode_lower left)
one_more s after left part behind is front back =
    rw (is, front, back, append_assoc, ← encode_with-append lower_digits (take 32 left) (drop 32 left), take-append-drop 32 left) refl
