use Rattle.std.proofs.Common.{◌≡◌, ◌+◌, ◌*◌, arith, ℕ, ⊎_elim, eq-eqb, ne_eqb}
use Rattle.usb_live.proofs.CellFacts.{when_true, when_false}
use Rattle.usb_live.proofs.OwnerSteps.{abandons}
use Rattle.usb_live.proofs.row.Row.abandon.Goals as goal

pub compare_exchange-found-requires : goal.compare_exchange-found-requires
compare_exchange-found-requires c = (c.requires.seat.0, omega (arith, c.args.self.now.sized), abandons _ _ _ _ _ c.args.ticket _ c.requires.cell.0 c.requires.seat.1.0 c.requires.cell.1 (omega arith) (omega arith))

pub returns-clause-left : goal.returns-clause-left
returns-clause-left c = let t : ℕ = c.args.ticket in let r : ℕ = c.compare_exchange-found.result in
    ⊎_elim
    (λ p. let e : r ≡ 4 * t + 1 = p.0 in when_true _ _ _ (eq-eqb r (t * 4 + 1) (omega arith)) p.1)
    (λ p. let e : r ≡ 4 * t = p.0 in when_false _ _ _ (ne_eqb r (t * 4 + 1) (λ z. omega arith)) p.1)
    (c.compare_exchange-found.ensures.2 t c.requires.cell.1)
