use Rattle.std.proofs.Common.{◌≡◌, ◌*◌, ◌/◌, ◌∙◌, arith, sym, subst, ap, refl, ℕ, Some, false}
use Rattle.usb_live.specs.declared.view.Transfer.{Transfer}
use Rattle.usb_live.specs.Cells.{OwnerTakes}
use Rattle.usb_live.specs.Steps.{owning, with_own}
use Rattle.usb_live.specs.declared.view.Owned.TheVariants.{Mine}
use Rattle.usb_live.proofs.OwnerSteps.{put_in, rested_own, refuses_out}
use Rattle.usb_live.proofs.row.Row.refuse.Goals as goal

pub swap-requires : goal.swap-requires
swap-requires c = let i : ℕ = c.args.cell in let out = c.owner_out.ensures.out in let near = c.requires.cell.0 in
    let x : Transfer = record { ticket = c.args.ticket; completion = Some c.args.done } in (
      c.exchange.ensures.0 ∙ (c.owner_out.ensures.seat.0 ∙ c.requires.seat.0),
      omega (arith, c.args.self.now.sized),
      refuses_out _ _ i _ _ _ _ _ x c.args.done (put_in i _ _ out.0 (Some x) _ _ _ out.1 c.exchange.ensures.3) refl near c.requires.seat.1 (subst OwnerTakes (sym c.requires.cell.2) tt) (omega arith),
    )

pub returns-clause-refused : goal.returns-clause-refused
returns-clause-refused c = let v = c.args.seat.now.me.0 in let i : ℕ = c.args.cell in let out = c.owner_out.ensures.out in
    let x : Transfer = record { ticket = c.args.ticket; completion = Some c.args.done } in
    let t : ℕ = c.args.ticket in let same : t * 4 / 4 ≡ t = omega arith in
    rested_own i _ _ (Mine (t * 4 / 4)) (Some x) _ _ _ (put_in i _ _ out.0 (Some x) _ _ _ out.1 c.exchange.ensures.3) c.swap.ensures.2
    ∙ ap (λ (k : ℕ). (owning (with_own v (Some c.args.done)) i (Mine k) false, c.args.seat.now.me.1)) same
