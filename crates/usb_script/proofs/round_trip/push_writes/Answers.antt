use Rattle.std.proofs.Common.{◌≡◌, ℕ, min, List, ◌++◌, length, take, drop, append_assoc, refl}
use Rattle.std.proofs.lemmas.List.{take_min, drop_min}
use Rattle.std.proofs.lemmas.Result.{IfOk-equal}
use Rattle.usb_script.specs.Generated.{write_of}
use Rattle.usb_script.proofs.round_trip.push_writes.Goals as goal

-- the two parts, one behind the other
both_parts : (old after bytes first more : List ℕ) (n : ℕ) → n ≡ min 128 (length bytes) → first ≡ take n bytes → more ≡ drop n bytes → after ≡ old ++ write_of first → after ++ write_of more ≡ old ++ (write_of (take 128 bytes) ++ write_of (drop 128 bytes))
both_parts old after bytes first more n count front back is =
    rw (is, front, back, count, take_min, drop_min, append_assoc) refl

pub returns : goal.returns
returns c =
    record { text = IfOk-equal _ _ _ _ c.push_write-2.ensures.text (both_parts c.args.script.now.items c.push_write.new.script.items c.args.bytes.now c.split_at.result.0.now c.split_at.result.1.now _ c.min.ensures c.split_at.ensures.front c.split_at.ensures.back c.in_ok-push_write.ensures.text) }
