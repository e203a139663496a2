-- Each completion that a line prints is that of the ticket that the line took.
use Rattle.std.specs.Prelude.{ℕ, ◌≡◌, ◌≢◌, List, [], ◌∷◌, ◌++◌, Some}
use Rattle.usb_xfer.specs.declared.transfer.Completion.{Completion}
use Rattle.usb_kernel.specs.declared.event.Event.{Event}
use Rattle.usb_kernel.specs.TransferCompletions.{transfer_completion}
use Rattle.usb_session_text.specs.Completions.{done_line}
use Rattle.usb_script_lines.specs.declared.item.Item.{Item}
use Rattle.usb_session_calls.specs.EndpointNames.{EndpointName, endpoint_under}
use Rattle.usb_session_calls.specs.State.{State, Endpoint}
use Rattle.usb_session_calls.specs.Answer.{Answer}
use Rattle.usb_session.specs.Answers.{answer}
use Rattle.usb_session.specs.Output.{start, behind, final_host}
use Rattle.usb_session.specs.Served.{taken_under}

-- the answer of a line took one ticket of the endpoint that is open under a name behind it, and none of another. It printed the
-- completion that the last journal has of this ticket. (It was the oldest pending one: taken tickets are the first)
pub record TookAndPrinted (last : List Event) (before : State) (a : Answer) : Type 0 where
  pub name : EndpointName
  pub entry : Endpoint
  pub ticket : ℕ
  pub completion : Completion
  pub open_behind : endpoint_under a.state name ≡ Some entry
  pub taken : entry.taken ≡ taken_under before name ++ ticket ∷ []
  pub others : (d : EndpointName) → d ≢ name → taken_under a.state d ≡ taken_under before d
  pub came : transfer_completion last ticket ≡ Some completion
  pub printed : a.line ≡ done_line completion

-- so it is of each line of a script that prints a completion, whatever became of the endpoint before the line and afterwards
abbrev pub CompletionsArePrinted : List Item → Type 0
CompletionsArePrinted items =
    (before after : List Item) (item : Item) (c : Completion) → items ≡ before ++ item ∷ after →
    (answer (behind (start items) before) item).line ≡ done_line c →
    TookAndPrinted (final_host items).kernel.past (behind (start items) before) (answer (behind (start items) before) item)

-- the law: so it is of each script
abbrev pub ScriptsPrintCompletions : Type 0
ScriptsPrintCompletions = (items : List Item) → CompletionsArePrinted items
