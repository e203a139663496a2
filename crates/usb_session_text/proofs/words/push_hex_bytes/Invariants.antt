use Rattle.std.proofs.Common.{◌≡◌, ◌++◌, drop}
use Rattle.std.specs.Prelude.{string_bytes}
use Rattle.hex.specs.Hex.{encode_lower}
use Rattle.usb_session_text.proofs.words.push_hex_bytes.Given as goal

abbrev pub invariant-loop-byte : goal.invariant-loop-byte
invariant-loop-byte l = string_bytes l.out ++ encode_lower (drop l.byte-index l.bytes) ≡ string_bytes l.initial.out ++ encode_lower l.bytes
