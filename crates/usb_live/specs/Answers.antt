-- What a step of the handler tells.
use Rattle.std.specs.Prelude.{◌≡◌, ◌≢◌, ℕ, ◌+◌, ◌/◌, ◌%◌, false, true, Bool, List, [], ◌∷◌, cond, Some, None}
use Rattle.usb_xfer.specs.declared.transfer.Completion.{Completion}
use Rattle.usb_kernel.specs.declared.event.Event.TheVariants.{Reap}
use Rattle.usb_kernel.specs.declared.submission.Done.{Done}
use Rattle.usb_kernel.specs.Completions.{reapable, completion}
use Rattle.usb_kernel.specs.Value.{KernelState}
use Rattle.usb_live.specs.declared.view.View.{View}
use Rattle.usb_live.specs.declared.view.HandlerCell.{HandlerCell}
use Rattle.usb_live.specs.declared.view.Handled.{Handled}
use Rattle.usb_live.specs.declared.view.Handled.TheVariants.{Idle, Working, Reclaimed}
use Rattle.usb_live.specs.declared.seats.CellStep.{CellStep}
use Rattle.usb_kernel.specs.TransferCompletions.{completion_of}
use Rattle.usb_live.specs.Rows.{handler_cell}
use Rattle.usb_live.specs.Steps.{handling, looked, MayFind}

-- The ticket t was reaped: it was finished and not reaped, the journal has its Reap more and nothing else of the kernel changed, and
-- the completion c is the one that the journal now gives the ticket
pub record Reaps (k l : KernelState) (t : ℕ) (c : Completion) : Type 0 where
  pub done : Done
  pub was : reapable k.past t ≡ Some done
  pub kernel : l ≡ record k { past = Reap t ∷ k.past }
  pub gives : completion l.past t ≡ Some done
  pub is : c ≡ completion_of done

-- a ticket for the handler lies in the cell i: the last look, which the view keeps, read its word as pending or abandoned
abbrev pub Waits : ℕ → View → View → Type 0
Waits i v w = (w.word % 4 ≢ 0) × MayFind (handler_cell v i).stage w.word

-- the ticket of the word of the last look
abbrev pub ticket_seen : View → ℕ
ticket_seen w = w.word / 4

-- Of the answer, the cell, the view and the kernel before, and both after.
-- Empty: the last look read a word that is neither pending nor abandoned. NotYet: a ticket for the handler lies there, and the
-- kernel has nothing of it to reap. Finished and Reclaimed: such a ticket lies there and was reaped, and the view keeps its
-- completion as the one that was put in last
abbrev pub StepTells : CellStep → ℕ → View → KernelState → View → KernelState → Type 0
StepTells CellStep.Empty i v k w l = (w.word % 4 ≡ 0) × (w ≡ looked v i w.word) × (l ≡ k)
StepTells CellStep.NotYet i v k w l =
    Waits i v w × (w ≡ looked (handling v i (Working (ticket_seen w)) false (handler_cell v i).last) i w.word)
    × (reapable k.past (ticket_seen w) ≡ None) × (l ≡ k)
StepTells CellStep.Finished i v k w l =
    Waits i v w × ((c : Completion) × (w ≡ looked (handling v i Idle false (Some c)) i w.word) × Reaps k l (ticket_seen w) c)
StepTells CellStep.Reclaimed i v k w l =
    Waits i v w × ((c : Completion) × (w ≡ looked (handling v i (Reclaimed (ticket_seen w)) false (Some c)) i w.word)
    × Reaps k l (ticket_seen w) c)

-- the handler took the ticket out of the cell
abbrev pub is_reclaimed : Handled → Bool
is_reclaimed (Reclaimed t) = true
is_reclaimed _ = false

-- how many cells the handler reclaimed
abbrev pub reclaimed_in : List HandlerCell → ℕ
reclaimed_in [] = 0
reclaimed_in (c ∷ cs) = cond (is_reclaimed c.stage) 1 0 + reclaimed_in cs

-- a step reclaims one cell, or none
abbrev pub reclaimed_by : CellStep → ℕ
reclaimed_by CellStep.Reclaimed = 1
reclaimed_by _ = 0
