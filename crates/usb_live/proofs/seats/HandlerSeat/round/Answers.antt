use Rattle.std.proofs.Common.{◌≡◌, ◌+◌, ◌∙◌, ap, refl, ℕ, arith}
use Rattle.usb_live.specs.declared.round.Round.{Round}
use Rattle.usb_live.specs.Rounds.{steps_of}
use Rattle.usb_live.proofs.Rounds.{one_step_more, reclaims_more, none_yet, appends_more, no_step_yet, steps_on}
use Rattle.usb_live.proofs.seats.HandlerSeat.round.Goals as goal

plus_none : (n k : ℕ) → k ≡ 0 → n ≡ n + k
plus_none n k none = omega arith

one_on : (n m k i : ℕ) → m ≡ k + i → n ≡ m + 1 → n ≡ k + (i + 1)
one_on n m k i so_far more = omega arith

added : (n m k r s d : ℕ) → m ≡ k + r → n ≡ m + d → s ≡ r + d → n ≡ k + s
added n m k r s d so_far more is = omega arith

pub loop-cell-init : goal.loop-cell-init
loop-cell-init c = let none = c.new-round.ensures.none in record {
  row = refl;
  each = no_step_yet _ _ _ none;
  steps = ap steps_of none;
  looks = plus_none _ 0 refl;
  count = plus_none _ _ (ap (λ (r : Round). r.reclaimed) none);
  kernel = none_yet _ _ (ap (λ (r : Round). r.finished + r.reclaimed) none);
}

pub loop-cell-preserved : goal.loop-cell-preserved
loop-cell-preserved c = let so_far = c.loop-cell.invariant in let step = c.step-step.ensures in let counted = c.count.ensures.counted in record {
  row = step.row ∙ so_far.row;
  each = steps_on _ _ _ _ _ _ _ _ _ _ so_far.each step.answer counted;
  steps = one_step_more _ _ _ counted ∙ ap (λ (n : ℕ). n + 1) so_far.steps;
  looks = one_on _ _ _ _ so_far.looks step.look.0;
  count = added _ _ _ _ _ _ so_far.count step.count (reclaims_more _ _ _ counted);
  kernel = appends_more _ _ _ _ _ _ _ _ _ counted step.answer so_far.kernel;
}
