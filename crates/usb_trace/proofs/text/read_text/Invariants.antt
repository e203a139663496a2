use Rattle.std.proofs.Common.{length}
use Rattle.usb_trace.proofs.Reading.{ReadTo}
use Rattle.usb_trace.proofs.text.read_text.Given as goal

abbrev pub invariant-loop-first : goal.invariant-loop-first
invariant-loop-first l = ReadTo l.bytes l.rest l.read l.line

abbrev pub decreases-loop-first : goal.decreases-loop-first
decreases-loop-first l = length l.rest
