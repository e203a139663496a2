-- One step more of a round.
use Rattle.std.proofs.Common.{◌≡◌, ℕ, suc, ◌+◌, ◌/◌, [], ◌∷◌, length, refl, sym, ap, ◌∙◌, subst, arith}
use Rattle.usb_kernel.specs.declared.event.Event.TheVariants.{Reap}
use Rattle.usb_kernel.specs.Value.{KernelState}
use Rattle.usb_live.specs.declared.view.View.{View}
use Rattle.usb_live.specs.declared.round.Round.{Round}
use Rattle.usb_live.specs.declared.seats.CellStep.{CellStep}
use Rattle.usb_live.specs.declared.seats.CellStep.TheVariants.{NotYet, Finished, Reclaimed, Empty}
use Rattle.usb_live.specs.Answers.{StepTells, reclaimed_by}
use Rattle.std.proofs.Math.Numerals.{add-one}
use Rattle.usb_live.specs.Rounds.{steps_of, with_step, no_steps, StepsOnCells, AppendsReaps}

pub one_step_more : (r s : Round) (x : CellStep) → s ≡ with_step r x → steps_of s ≡ steps_of r + 1
one_step_more r s NotYet e = ap steps_of e ∙ (let a : (r.not_yet + 1) + r.finished + r.reclaimed + r.empty ≡ r.not_yet + r.finished + r.reclaimed + r.empty + 1 = omega arith in a)
one_step_more r s Finished e = ap steps_of e ∙ (let a : r.not_yet + (r.finished + 1) + r.reclaimed + r.empty ≡ r.not_yet + r.finished + r.reclaimed + r.empty + 1 = omega arith in a)
one_step_more r s Reclaimed e = ap steps_of e ∙ (let a : r.not_yet + r.finished + (r.reclaimed + 1) + r.empty ≡ r.not_yet + r.finished + r.reclaimed + r.empty + 1 = omega arith in a)
one_step_more r s Empty e = ap steps_of e ∙ (let a : r.not_yet + r.finished + r.reclaimed + (r.empty + 1) ≡ r.not_yet + r.finished + r.reclaimed + r.empty + 1 = omega arith in a)

pub reclaims_more : (r s : Round) (x : CellStep) → s ≡ with_step r x → s.reclaimed ≡ r.reclaimed + reclaimed_by x
reclaims_more r s NotYet e = ap (λ (z : Round). z.reclaimed) e ∙ (let n : ℕ = r.reclaimed in let a : n ≡ n + 0 = omega arith in a)
reclaims_more r s Finished e = ap (λ (z : Round). z.reclaimed) e ∙ (let n : ℕ = r.reclaimed in let a : n ≡ n + 0 = omega arith in a)
reclaims_more r s Reclaimed e = ap (λ (z : Round). z.reclaimed) e
reclaims_more r s Empty e = ap (λ (z : Round). z.reclaimed) e ∙ (let n : ℕ = r.reclaimed in let a : n ≡ n + 0 = omega arith in a)

pub none_yet : (n : ℕ) (k : KernelState) → n ≡ 0 → AppendsReaps n k k
none_yet n k e = record { tickets = []; many = sym e; kernel = refl }

one_more : (n m t : ℕ) (j k l : KernelState) → AppendsReaps n j k → l ≡ record k { past = Reap t ∷ k.past } → m ≡ n + 1 → AppendsReaps m j l
one_more n m t j k l so_far e is = record {
  tickets = t ∷ so_far.tickets;
  many = let a : ℕ = length so_far.tickets in let many : a ≡ n = so_far.many in let all : suc a ≡ m = omega arith in all;
  kernel = e ∙ ap (λ (s : KernelState). record s { past = Reap t ∷ s.past }) so_far.kernel;
}

as_many : (n m : ℕ) (j k l : KernelState) → AppendsReaps n j k → l ≡ k → m ≡ n → AppendsReaps m j l
as_many n m j k l so_far e is = subst (λ (a : ℕ). AppendsReaps a j l) (sym is) (subst (AppendsReaps n j) (sym e) so_far)

-- a step appends the reap of its ticket, or nothing
pub appends_more : (r s : Round) (x : CellStep) (i : ℕ) (v w : View) (j k l : KernelState) → s ≡ with_step r x → StepTells x i v k w l
    → AppendsReaps (r.finished + r.reclaimed) j k → AppendsReaps (s.finished + s.reclaimed) j l
appends_more r s Empty i v w j k l e t so_far = as_many _ _ j k l so_far t.2 (ap (λ (z : Round). z.finished + z.reclaimed) e)
appends_more r s NotYet i v w j k l e t so_far = as_many _ _ j k l so_far t.3 (ap (λ (z : Round). z.finished + z.reclaimed) e)
appends_more r s Finished i v w j k l e t so_far = one_more _ _ (w.word / 4) j k l so_far t.1.2.kernel
    (ap (λ (z : Round). z.finished + z.reclaimed) e ∙ (let a : ℕ = r.finished in let b : ℕ = r.reclaimed in let h : a + 1 + b ≡ a + b + 1 = omega arith in h))
appends_more r s Reclaimed i v w j k l e t so_far = one_more _ _ (w.word / 4) j k l so_far t.1.2.kernel
    (ap (λ (z : Round). z.finished + z.reclaimed) e ∙ (let a : ℕ = r.finished in let b : ℕ = r.reclaimed in let h : a + (b + 1) ≡ a + b + 1 = omega arith in h))

pub no_step_yet : (v : View) (k : KernelState) (r : Round) → r ≡ no_steps → StepsOnCells 0 v k v k r
unfolding StepsOnCells
no_step_yet v k r e = (refl, refl, e)

next : (n : ℕ) (v u w : View) (k j l : KernelState) (q r : Round) (x : CellStep) → StepsOnCells n v k u j q → StepTells x n u j w l → r ≡ with_step q x → StepsOnCells (suc n) v k w l r
unfolding StepsOnCells
next n v u w k j l q r x so_far step counted = (u, j, q, x, so_far, step, counted)

-- a step on the next cell
pub steps_on : (n : ℕ) (v u w : View) (k j l : KernelState) (q r : Round) (x : CellStep) → StepsOnCells n v k u j q → StepTells x n u j w l → r ≡ with_step q x → StepsOnCells (n + 1) v k w l r
steps_on n v u w k j l q r x so_far step counted = subst (λ (m : ℕ). StepsOnCells m v k w l r) (sym (add-one n)) (next n v u w k j l q r x so_far step counted)
