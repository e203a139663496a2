use Rattle.std.proofs.Common.{◌≡◌, ◌*◌, ◌/◌, ◌∙◌, arith, ap, ℕ, None, false}
use Rattle.usb_live.specs.Rows.{handler_cell}
use Rattle.usb_live.specs.Steps.{handling}
use Rattle.usb_live.specs.declared.view.Handled.TheVariants.{Reclaimed}
use Rattle.usb_live.proofs.HandlerSteps.{put_in, rested_same, reclaims_out}
use Rattle.usb_live.proofs.row.Row.reclaim.Goals as goal

pub swap-requires : goal.swap-requires
swap-requires c = let v = c.args.seat.now.me.0 in let i : ℕ = c.args.cell in let out = c.handler_out.ensures.out in let near = c.requires.cell.0 in (
  c.exchange.ensures.0 ∙ (c.handler_out.ensures.seat.0 ∙ c.requires.seat.0),
  omega (arith, c.args.self.now.sized),
  reclaims_out _ _ i _ c.args.ticket _ v _ _ _ (put_in i v _ _ out.0 None _ _ _ out.1 c.exchange.ensures.3) c.requires.cell.2 near c.requires.seat.1 (omega arith),
)

pub returns-clause-reclaimed : goal.returns-clause-reclaimed
returns-clause-reclaimed c = let v = c.args.seat.now.me.0 in let i : ℕ = c.args.cell in let out = c.handler_out.ensures.out in
    let t : ℕ = c.args.ticket in let same : t * 4 / 4 ≡ t = omega arith in
    rested_same i v _ (Reclaimed (t * 4 / 4)) _ None _ _ _ c.requires.cell.0 c.requires.seat.1 (put_in i v _ _ out.0 None _ _ _ out.1 c.exchange.ensures.3) c.swap.ensures.2
    ∙ ap (λ (k : ℕ). (handling v i (Reclaimed k) false (handler_cell v i).last, c.args.seat.now.me.1)) same
