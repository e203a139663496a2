use Rattle.std.proofs.Common.{length}
use Rattle.usb_desc.proofs.GroupLemmas.{WalksRun}
use Rattle.usb_core_c.proofs.parts.run_len.Given as goal

abbrev pub invariant-loop-descriptor : goal.invariant-loop-descriptor
invariant-loop-descriptor l = WalksRun l.kind l.bytes l.rest

abbrev pub decreases-loop-descriptor : goal.decreases-loop-descriptor
decreases-loop-descriptor l = length l.rest
