-- What a round of the handler tells.
use Rattle.std.specs.Prelude.{◌≡◌, ℕ, zero, suc, ◌+◌, List, ◌++◌, length, map}
use Rattle.usb_kernel.specs.declared.event.Event.TheVariants.{Reap}
use Rattle.usb_kernel.specs.Value.{KernelState}
use Rattle.usb_live.specs.declared.view.View.{View}
use Rattle.usb_live.specs.Answers.{StepTells}
use Rattle.usb_live.specs.declared.seats.CellStep.{CellStep}
use Rattle.usb_live.specs.declared.seats.CellStep.TheVariants.{NotYet, Finished, Reclaimed, Empty}
use Rattle.usb_live.specs.declared.round.Round.{Round}

-- how many steps were counted
abbrev pub steps_of : Round → ℕ
steps_of r = r.not_yet + r.finished + r.reclaimed + r.empty

abbrev pub with_step : Round → CellStep → Round
with_step r NotYet = record r { not_yet = r.not_yet + 1 }
with_step r Finished = record r { finished = r.finished + 1 }
with_step r Reclaimed = record r { reclaimed = r.reclaimed + 1 }
with_step r Empty = record r { empty = r.empty + 1 }

-- no step was counted yet
abbrev pub no_steps : Round
no_steps = record { not_yet = 0; finished = 0; reclaimed = 0; empty = 0 }

-- one step on each of the first n cells, from the first on: of the view and the kernel before, both after, and the count of the answers
unfoldable pub StepsOnCells : ℕ → View → KernelState → View → KernelState → Round → Type 0
StepsOnCells zero v k w l r = (w ≡ v) × (l ≡ k) × (r ≡ no_steps)
StepsOnCells (suc n) v k w l r =
    (u : View) × (j : KernelState) × (q : Round) × (x : CellStep) × StepsOnCells n v k u j q × StepTells x n u j w l × (r ≡ with_step q x)

-- the journal has the reaps of so many tickets more, and nothing else of the kernel changed
pub record AppendsReaps (n : ℕ) (k l : KernelState) : Type 0 where
  pub tickets : List ℕ
  pub many : length tickets ≡ n
  pub kernel : l ≡ record k { past = map (λ t. Reap t) tickets ++ k.past }
