use Rattle.std.proofs.Common.{ap, ◌∙◌, false}
use Rattle.usb_live.specs.declared.view.Owned.TheVariants.{Filled, Pending}
use Rattle.usb_live.specs.Steps.{Sat, owning}
use Rattle.usb_live.specs.Seats.{OwnerState}
use Rattle.usb_live.proofs.Queue.{owner_is}
use Rattle.usb_live.proofs.StepFacts.{twice}
use Rattle.usb_live.proofs.seats.Owner.submit.Goals as goal

pub returns : goal.returns
returns c = let i = c.args.cell in let t = c.args.ticket in let is = c.self.view_is in record {
  pending = owner_is _ _ (c.publish.ensures.seat.0 ∙ (c.fill.ensures.seat.0 ∙ ap (λ (s : OwnerState). s.row) is))
      (ap (λ (m : Sat). m.0) c.publish.ensures.published
      ∙ (ap (λ (m : Sat). owning m.0 i (Pending t) false) c.fill.ensures.filled
      ∙ (twice c.self.inside.seat.me.0 i (Filled t) (Pending t) false false ∙ ap (λ (s : OwnerState). owning s.view i (Pending t) false) is)))
      (ap (λ (s : OwnerState). s.source) is) (ap (λ (s : OwnerState). s.ready) is) (ap (λ (s : OwnerState). s.heard) is);
}
