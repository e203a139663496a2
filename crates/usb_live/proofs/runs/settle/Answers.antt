use Rattle.std.proofs.Common.{ℕ, ap}
use Rattle.usb_live.proofs.Turns.{counts_more}
use Rattle.usb_live.proofs.runs.settle.Goals as goal

pub rounds-preserved : goal.rounds-preserved
rounds-preserved g c = record {
  count = counts_more _ _ _ _ _ _ c.round-round.result.reclaimed c.rounds.invariant.count c.round-round.ensures.count (ap (λ (n : ℕ). record c.rounds.looped { reclaimed = n }) c.saturating_add.ensures);
}
