-- Each control transfer of a script is answered once by a line, with what came of it, or given up once when its future is closed.
use Rattle.std.specs.Prelude.{ℕ, ◌≡◌, ◌==◌, ◌⊎◌, true, List, [], ◌∷◌, ◌++◌, map, count_by, Some}
use Rattle.std.specs.List.{All}
use Rattle.usb_xfer.specs.declared.transfer.Completion.{Completion}
use Rattle.usb_kernel.specs.TransferCompletions.{transfer_completion}
use Rattle.usb_device_ledger.specs.declared.ends.TicketEnd.TheVariants.{Taken}
use Rattle.usb_device_ledger.specs.EndedTickets.{end_at}
use Rattle.usb_device_host.specs.HostState.{HostState}
use Rattle.usb_device_host.specs.Finishes.{HasEnds}
use Rattle.usb_session_text.specs.Calls.{condition_line}
use Rattle.usb_session_text.specs.Controls.{pending_line}
use Rattle.usb_script_lines.specs.declared.item.Item.{Item}
use Rattle.usb_session_calls.specs.Calls.{call_of, answers_control}
use Rattle.usb_session.specs.Answers.{answer}
use Rattle.usb_session.specs.Output.{start, behind, final_host}
use Rattle.usb_session.specs.Served.{control_tickets, end_given_up}
use Rattle.usb_session.specs.ControlAnswers.{ControlAnswer, answered_by, control_answers}
use Rattle.usb_session.specs.ClosedFutures.{ClosedFuture, closed_futures}

-- the line tells what the last host's journal has as the completion of the ticket, which was taken
pub record IsAnsweredAsItCame (last : HostState) (x : ControlAnswer) : Type 0 where
  pub completion : Completion
  pub came : transfer_completion last.kernel.past x.ticket ≡ Some completion
  pub told : x.line ≡ x.tells completion
  pub taken : end_at last.tickets x.ticket ≡ Some Taken

-- the ticket of a future that was closed has the end that comes of that
abbrev pub IsGivenUp : HostState → ClosedFuture → Type 0
IsGivenUp last x = end_at last.tickets x.ticket ≡ Some (end_given_up x.past x.ticket)

-- the tickets of both
abbrev pub tickets_parted : List ControlAnswer → List ClosedFuture → List ℕ
tickets_parted answers closed = map (λ (x : ControlAnswer). x.ticket) answers ++ map (λ (x : ClosedFuture). x.ticket) closed

-- Each control transfer that a line answers is answered with what came of it (`answered`), and each whose future was closed was given
-- up then (`closed`). These are, each once, the control transfers that were handed in (`once`). A line that may answer one and
-- answers none says `condition` or `pending` (`others`)
pub record ControlsAreServed (items : List Item) : Type 0 where
  pub answered : All (IsAnsweredAsItCame (final_host items)) (control_answers items)
  pub closed : All (IsGivenUp (final_host items)) (closed_futures items)
  pub once : (t : ℕ) → count_by (λ u. u == t) (tickets_parted (control_answers items) (closed_futures items)) ≡ count_by (λ u. u == t) (control_tickets items)
  pub others : (before after : List Item) (item : Item) → items ≡ before ++ item ∷ after → answers_control (call_of item) ≡ true →
      answered_by (behind (start items) before) (call_of item) (answer (behind (start items) before) item) ≡ [] →
      ((answer (behind (start items) before) item).line ≡ condition_line) ⊎ ((answer (behind (start items) before) item).line ≡ pending_line)

-- the law: so it is of each script whose tickets have their ends
abbrev pub ScriptsServeControls : Type 0
ScriptsServeControls = (items : List Item) → HasEnds (final_host items).tickets → ControlsAreServed items
