use Rattle.std.proofs.Common.{◌≡◌, ◌*◌, ◌/◌, ◌∙◌, arith, sym, subst, ap, ℕ, Some, false}
use Rattle.usb_live.specs.Cells.{OwnerTakes}
use Rattle.usb_live.specs.Steps.{owning, with_own, found_in}
use Rattle.usb_live.specs.declared.view.Owned.{Owned}
use Rattle.usb_live.specs.declared.view.Owned.TheVariants.{Filled}
use Rattle.usb_live.proofs.OwnerSteps.{put_in, rested, fills_out}
use Rattle.usb_live.proofs.row.Row.fill.Goals as goal

pub swap-requires : goal.swap-requires
swap-requires c = let i : ℕ = c.args.cell in let out = c.owner_out.ensures.out in let near = c.requires.cell.0 in (
  c.exchange.ensures.0 ∙ (c.owner_out.ensures.seat.0 ∙ c.requires.seat.0),
  omega (arith, c.args.self.now.sized),
  fills_out _ _ i _ _ _ _ _ c.args.transfer (put_in i _ _ out.0 (Some c.args.transfer) _ _ _ out.1 c.exchange.ensures.3) near c.requires.seat.1 (subst OwnerTakes (sym c.requires.cell.2) tt) (omega arith),
)

pub returns-clause-filled : goal.returns-clause-filled
returns-clause-filled c = let v = c.args.seat.now.me.0 in let i : ℕ = c.args.cell in let out = c.owner_out.ensures.out in
    let t : ℕ = c.args.transfer.ticket in let same : t * 4 / 4 ≡ t = omega arith in
    rested i _ _ (Filled (t * 4 / 4)) (Some c.args.transfer) _ _ _ (put_in i _ _ out.0 (Some c.args.transfer) _ _ _ out.1 c.exchange.ensures.3) c.swap.ensures.2
    ∙ (ap (λ (s : Owned). (owning (with_own v (found_in s out.0 v.own)) i (Filled (t * 4 / 4)) false, c.args.seat.now.me.1)) c.requires.cell.2
    ∙ ap (λ (k : ℕ). (owning v i (Filled k) false, c.args.seat.now.me.1)) same)
