use Rattle.std.proofs.Common.{◌≡◌, ◌+◌, ◌*◌, ◌%◌, ◌∙◌, arith, ap, ℕ, ⊎_elim, eq-eqb, ne_eqb, false}
use Rattle.usb_live.specs.Steps.{owning, looked}
use Rattle.usb_live.specs.declared.view.Owned.TheVariants.{Mine}
use Rattle.usb_live.proofs.CellFacts.{when_true, when_false}
use Rattle.usb_live.proofs.OwnerSteps.{looks}
use Rattle.usb_live.proofs.row.Row.owner_look.Goals as goal

pub load-requires : goal.load-requires
load-requires c = (c.requires.seat.0, omega (arith, c.args.self.now.sized), looks _ _ _ c.args.ticket _ c.requires.cell.0 c.requires.seat.1.0 c.requires.cell.1)

pub returns-clause-looked : goal.returns-clause-looked
returns-clause-looked c = let v = c.args.seat.now.me.0 in let i : ℕ = c.args.cell in let t : ℕ = c.args.ticket in let r : ℕ = c.load.result in
    ⊎_elim
    (λ p. let e : r ≡ 4 * t = p.0 in when_true _ _ _ (eq-eqb (r % 4) 0 (omega arith)) (p.1 ∙ ap (λ (k : ℕ). (looked (owning v i (Mine t) false) i k, c.args.seat.now.me.1)) e))
    (λ p. let e : r ≡ 4 * t + 1 = p.0 in when_false _ _ _ (ne_eqb (r % 4) 0 (λ z. omega arith)) (p.1 ∙ ap (λ (k : ℕ). (looked v i k, c.args.seat.now.me.1)) e))
    (c.load.ensures.2 t c.requires.cell.1)
