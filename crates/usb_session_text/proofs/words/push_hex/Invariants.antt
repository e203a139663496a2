use Rattle.std.proofs.Common.{◌≡◌, ◌++◌, length}
use Rattle.std.specs.Prelude.{string_bytes}
use Rattle.hex.specs.Hex.{encode_lower}
use Rattle.usb_session_text.proofs.words.push_hex.Given as goal

abbrev pub invariant-loop-left : goal.invariant-loop-left
invariant-loop-left l = string_bytes l.out ++ encode_lower l.left ≡ string_bytes l.initial.out ++ encode_lower l.bytes

abbrev pub decreases-loop-left : goal.decreases-loop-left
decreases-loop-left l = length l.left
