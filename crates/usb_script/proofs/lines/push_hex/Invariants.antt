use Rattle.std.proofs.Common.{◌≡◌, ◌++◌, drop}
use Rattle.hex.specs.Hex.{encode_lower}
use Rattle.usb_script.proofs.lines.push_hex.Given as goal

abbrev pub invariant-loop-byte : goal.invariant-loop-byte
invariant-loop-byte l =
    l.script.items ++ encode_lower (drop l.byte-index l.bytes) ≡ l.initial.script.items ++ encode_lower l.bytes
