use Rattle.std.proofs.Common.{◌≡◌, ℕ, ◌+◌, ◌<◌, List, [], ◌∷◌, ◌++◌, length, drop, slice_index, arith, append_assoc, suc, ◌∙◌}
use Rattle.std.specs.Prelude.{string_bytes}
use Rattle.std.proofs.Math.Seq.{drop-cons}
use Rattle.hex.specs.Hex.{encode_with, encode_lower}
use Rattle.usb_session_text.proofs.words.push_hex_bytes.Goals as goal

-- the digits of one byte more
one_more : (text after bytes : List ℕ) (i : ℕ) → i < length bytes → after ≡ text ++ encode_lower (slice_index bytes i ∷ []) → after ++ encode_lower (drop (i + 1) bytes) ≡ text ++ encode_lower (drop i bytes)
unfolding encode_with
one_more text after bytes i within is =
    let next : i + 1 ≡ suc i = omega arith in rw (is, next, drop-cons bytes i 0 within) (simp append_assoc)

pub loop-byte-preserved : goal.loop-byte-preserved
loop-byte-preserved c =
    one_more (string_bytes c.loop-byte.out) (string_bytes c.push_two_digits.new.out) c.args.bytes.now c.loop-byte.byte-index c.loop-byte-test.true c.in_ok-push_two_digits.ensures.text
    ∙ c.loop-byte.invariant
