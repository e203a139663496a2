use Rattle.std.proofs.Common.{◌≡◌, ℕ, refl, ap, ◌∙◌, subst, false}
use Rattle.usb_live.specs.Seats.{OwnerState}
use Rattle.usb_live.specs.declared.view.Owned.TheVariants.{Free}
use Rattle.usb_live.specs.Rows.{stage_at}
use Rattle.usb_live.specs.Live.{Live, stage_of}
use Rattle.usb_live.specs.Submits.{entry_of}
use Rattle.usb_live.proofs.Queue.{occupied, vacant, pushed, pushes, placed_cells}
use Rattle.usb_live.proofs.endpoint.LiveEndpoint.submit.Goals as goal

pub returns-in_default : goal.returns-in_default
returns-in_default c = record { submitted = (refl, refl, refl, λ i l. subst (λ (x : Live). stage_at x.seat.view.owner i ≡ Free → ⊥) c.self.view_is (occupied _ _ _ i c.self.invariant l (c.in_default.ensures.first i l))) }

pub invariant_of-self-2 : goal.invariant_of-self-2
invariant_of-self-2 c = let v = c.self.inside.seat in let i : ℕ = c.in-Some.cell in let e = entry_of c.in-Ok.submitted i in let first = c.in-Some.ensures.first in
    pushes v.view _ _ _ e _ _ (record { stage = stage_of e; out = false }) c.self.invariant
    (pushed _ _ _ e _ c.push_back_reserved.ensures.items c.reserve.ensures.items c.place-entry.ensures.entry)
    (ap (λ (z : OwnerState). z.view.owner) c.place-entry.ensures.seat ∙ placed_cells v c.in-Ok.submitted i) refl first.0 c.in-Ok.ensures.number (vacant _ _ _ i c.self.invariant first.0 first.1) refl
