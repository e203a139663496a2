use Rattle.std.proofs.Common.{◌≡◌, ℕ, None}
use Rattle.usb_session_calls.specs.Names.{named}
use Rattle.usb_session_calls.proofs.names.drop_names.Given as goal

abbrev pub invariant-places : goal.invariant-places
invariant-places g l = (n : ℕ) → named l.names.items n ≡ None

abbrev pub decreases-places : goal.decreases-places
decreases-places g l = goal.left-places g l
