use Rattle.std.proofs.Common.{ℕ, ap, ◌∙◌}
use Rattle.usb_live.proofs.Turns.{counts_more}
use Rattle.usb_live.proofs.looping.event_loop.Goals as goal

pub rounds-preserved : goal.rounds-preserved
rounds-preserved g c = let so_far = c.rounds.invariant in let round = c.round-round.ensures in record {
  row = round.row ∙ so_far.row;
  count = counts_more _ _ _ _ _ _ c.round-round.result.reclaimed so_far.count round.count (ap (λ (n : ℕ). record c.rounds.tally { reclaimed = n }) c.saturating_add.ensures);
}

pub rounds-preserved-then-round-gt0 : goal.rounds-preserved-then-round-gt0
rounds-preserved-then-round-gt0 g c = let so_far = c.rounds.invariant in let round = c.round-round.ensures in record {
  row = round.row ∙ so_far.row;
  count = counts_more _ _ _ _ _ _ c.round-round.result.reclaimed so_far.count round.count (ap (λ (n : ℕ). record c.rounds.tally { reclaimed = n }) c.saturating_add.ensures);
}
