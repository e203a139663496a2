use Rattle.std.proofs.Common.{◌≡◌, ◌∙◌, arith, ap, sym, subst, ℕ, Option, Some, None, false}
use Rattle.usb_xfer.specs.declared.transfer.Completion.{Completion}
use Rattle.usb_live.specs.declared.view.Owned.{Owned}
use Rattle.usb_live.specs.Cells.{OwnerTakes}
use Rattle.usb_live.specs.Steps.{owning, with_own, found_in, slot_completion}
use Rattle.usb_live.specs.declared.view.Owned.TheVariants.{Free}
use Rattle.usb_live.proofs.OwnerSteps.{put_in, rested, found, takes_back_out}
use Rattle.usb_live.proofs.row.Row.owner_take.Goals as goal

pub swap-requires : goal.swap-requires
swap-requires c = let i : ℕ = c.args.cell in let out = c.owner_out.ensures.out in let near = c.requires.cell.0 in (
  c.exchange.ensures.0 ∙ (c.owner_out.ensures.seat.0 ∙ c.requires.seat.0),
  omega (arith, c.args.self.now.sized),
  takes_back_out _ _ i _ _ _ _ _ (put_in i _ _ out.0 None _ _ _ out.1 c.exchange.ensures.3) near c.requires.seat.1 (subst OwnerTakes (sym c.requires.cell.2) tt) (omega arith),
)

pub returns-clause-taken : goal.returns-clause-taken
returns-clause-taken c = let v = c.args.seat.now.me.0 in let i : ℕ = c.args.cell in let r = c.args.seat.now.me.1 in let out = c.owner_out.ensures.out in
    let same = found i _ _ out.0 c.exchange.result _ _ out.1 c.exchange.ensures.2 in
    let held : slot_completion out.0 ≡ Some c.in-Some-completion.done = ap slot_completion (sym same ∙ c.in-Some.is) ∙ c.in-Some-completion.is in
    rested i _ _ Free None _ _ _ (put_in i _ _ out.0 None _ _ _ out.1 c.exchange.ensures.3) c.swap.ensures.2
    ∙ (ap (λ (s : Owned). (owning (with_own v (found_in s out.0 v.own)) i Free false, r)) c.requires.cell.2
    ∙ ap (λ (o : Option Completion). (owning (with_own v o) i Free false, r)) held)
