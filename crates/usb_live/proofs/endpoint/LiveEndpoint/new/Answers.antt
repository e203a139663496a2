use Rattle.std.proofs.Common.{refl, sym, subst}
use Rattle.usb_live.specs.Rests.{IsUnused}
use Rattle.usb_live.specs.Seats.{OwnerState}
use Rattle.usb_live.proofs.Queue.{begins}
use Rattle.usb_live.proofs.endpoint.LiveEndpoint.new.Goals as goal

pub invariant_of-result : goal.invariant_of-result
invariant_of-result c = let unused = subst (λ (s : OwnerState). IsUnused s.view) (sym c.into_owner.ensures.owner) c.into_owner.ensures.unused in begins _ _ _ unused.wide unused.free c.in-Ok.ensures.items refl
