use Rattle.std.proofs.Common.{ℕ, ◌<◌, ◌≤◌, [], length, slice_index_or}
use Rattle.usb_desc.specs.Interfaces as spec
use Rattle.usb_desc.proofs.interfaces.place_of.Given as goal

abbrev pub invariant-places : goal.invariant-places
invariant-places l = (k : ℕ) → l.place ≤ k → k < length l.groups → l.number ≤ spec.number_of (slice_index_or l.groups k [])
