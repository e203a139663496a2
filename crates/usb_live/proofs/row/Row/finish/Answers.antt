use Rattle.std.proofs.Common.{◌≡◌, ◌*◌, ◌/◌, ◌%◌, ◌∙◌, arith, ap, refl, ℕ, Some, None, Option, false, ⊎_elim, eq-eqb, ne_eqb}
use Rattle.usb_xfer.specs.declared.transfer.Completion.{Completion}
use Rattle.usb_live.specs.declared.view.Transfer.{Transfer}
use Rattle.usb_live.specs.Steps.{handling, completion_in, Sat}
use Rattle.usb_live.specs.declared.view.Handled.TheVariants.{Idle, Reclaim}
use Rattle.usb_live.proofs.CellFacts.{when_true, when_false}
use Rattle.usb_live.proofs.HandlerSteps.{put_in, rested, finishes_out, found, found_ticket}
use Rattle.usb_live.proofs.row.Row.finish.Goals as goal

pub swap-requires : goal.swap-requires
swap-requires c = let v = c.args.seat.now.me.0 in let i : ℕ = c.args.cell in let out = c.handler_out.ensures.out in let near = c.requires.cell.0 in
    let x : Transfer = record { ticket = c.in-Some.transfer.ticket; completion = Some c.args.done } in
    let ticket = found_ticket c.args.ticket _ _ out.0 c.exchange.result c.in-Some.transfer c.requires.cell.2 out.2 (found i v _ _ out.0 _ _ _ out.1 c.exchange.ensures.2) c.in-Some.is in (
      c.exchange-2.ensures.0 ∙ (c.exchange.ensures.0 ∙ (c.handler_out.ensures.seat.0 ∙ c.requires.seat.0)),
      omega (arith, c.args.self.now.sized),
      finishes_out _ _ i _ c.args.ticket _ v _ _ _ x c.args.done (put_in i v _ _ None (Some x) _ _ _ (put_in i v _ _ out.0 None _ _ _ out.1 c.exchange.ensures.3) c.exchange-2.ensures.3) c.requires.cell.2 near c.requires.seat.1
          ticket refl (omega arith),
    )

pub returns-clause-finished : goal.returns-clause-finished
returns-clause-finished c = let v = c.args.seat.now.me.0 in let i : ℕ = c.args.cell in let out = c.handler_out.ensures.out in
    let x : Transfer = record { ticket = c.in-Some.transfer.ticket; completion = Some c.args.done } in
    let t : ℕ = c.args.ticket in let same : t * 4 / 4 ≡ t = omega arith in let r : ℕ = c.swap.result in
    let has = put_in i v _ _ None (Some x) _ _ _ (put_in i v _ _ out.0 None _ _ _ out.1 c.exchange.ensures.3) c.exchange-2.ensures.3 in
    let put : completion_in c.exchange-2.new.seat.me.1 ≡ Some c.args.done = ap (λ (z : Sat). completion_in z.1) has in
    ⊎_elim
    (λ p. when_true _ _ _ (eq-eqb (r % 4) 1 p.0) (rested i v _ Idle _ _ (Some x) _ _ _ has p.1 ∙ ap (λ (d : Option Completion). (handling v i Idle false d, c.args.seat.now.me.1)) put))
    (λ p. let two : r % 4 ≡ 2 = p.0 in when_false _ _ _ (ne_eqb (r % 4) 1 (λ z. omega arith)) (rested i v _ (Reclaim (t * 4 / 4)) _ _ (Some x) _ _ _ has p.1
    ∙ (ap (λ (k : ℕ). (handling v i (Reclaim k) false (completion_in c.exchange-2.new.seat.me.1), c.args.seat.now.me.1)) same ∙ ap (λ (d : Option Completion). (handling v i (Reclaim t) false d, c.args.seat.now.me.1)) put)))
    c.swap.ensures.2
