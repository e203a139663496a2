use Rattle.std.proofs.Common.{length}
use Rattle.usb_core_c.proofs.PartLemmas.{WalksTo}
use Rattle.usb_core_c.proofs.parts.first_group.Given as goal

abbrev pub invariant-loop-descriptor : goal.invariant-loop-descriptor
invariant-loop-descriptor l = WalksTo l.kind l.least l.bytes l.rest

abbrev pub decreases-loop-descriptor : goal.decreases-loop-descriptor
decreases-loop-descriptor l = length l.rest
