use Rattle.std.proofs.Common.{◌≡◌, ◌+◌, ◌*◌, ◌≤◌, length}
use Rattle.hex.specs.Hex.{encode_lower}
use Rattle.usb_trace_lines.specs.Written.{begun_with}
use Rattle.usb_trace_lines.proofs.words.put_hex.Given as goal

abbrev pub invariant-loop-left : goal.invariant-loop-left
invariant-loop-left g l = record {
  more : begun_with (g.K.Lines.state l.out) (encode_lower l.left) ≡ begun_with (g.K.Lines.state l.initial.out) (encode_lower l.bytes);
  room : length (g.K.Lines.state l.out).begun + 2 * length l.left ≤ 140000;
}

abbrev pub decreases-loop-left : goal.decreases-loop-left
decreases-loop-left g l = length l.left
