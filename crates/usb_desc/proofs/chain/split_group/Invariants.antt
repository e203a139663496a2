use Rattle.std.proofs.Common.{◌≡◌, ◌≤◌, length}
use Rattle.usb_desc.specs.Groups.{groups}
use Rattle.usb_desc.proofs.chain.split_group.Given as goal

abbrev pub invariant-loop-descriptor : goal.invariant-loop-descriptor
invariant-loop-descriptor l = (length l.rest ≤ length l.bytes) × (groups l.kind l.least l.bytes ≡ groups l.kind l.least l.rest)

abbrev pub decreases-loop-descriptor : goal.decreases-loop-descriptor
decreases-loop-descriptor l = length l.rest
