use Rattle.std.proofs.Common.{◌≡◌, ℕ, ◌/◌, ◌%◌, List, [], ◌∷◌, ◌++◌, take, drop, slice_index, append_assoc, refl, ap, ◌∙◌}
use Rattle.std.specs.Prelude.{string_bytes}
use Rattle.std.proofs.lemmas.List.{take-append-drop}
use Rattle.hex.specs.Hex.{encode_with, encode_lower, lower_digits}
use Rattle.usb_session_text.proofs.words.push_hex.Goals as goal

encode_with-append : (t xs ys : List ℕ) → encode_with t (xs ++ ys) ≡ encode_with t xs ++ encode_with t ys
unfolding encode_with
encode_with-append t [] ys = refl
encode_with-append t (x ∷ xs) ys =
    ap (λ l. slice_index t (x / 16) ∷ slice_index t (x % 16) ∷ l) (encode_with-append t xs ys)

-- the digits of one part more
one_more : (text after left part behind : List ℕ) → after ≡ text ++ encode_lower part → part ≡ take 32 left → behind ≡ drop 32 left → after ++ encode_lower behind ≡ text ++ encode_lower left
one_more text after left part behind is front back =
    rw (is, front, back, append_assoc, ← encode_with-append lower_digits (take 32 left) (drop 32 left), take-append-drop 32 left)

pub loop-left-preserved : goal.loop-left-preserved
loop-left-preserved c =
    one_more (string_bytes c.loop-left.out) (string_bytes c.push_hex_part.new.out) c.loop-left.left.now c.split_at.result.0.now c.split_at.result.1.now c.in_ok-push_hex_part.ensures.text c.split_at.ensures.front c.split_at.ensures.back
    ∙ c.loop-left.invariant
