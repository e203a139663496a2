-- What is printed of an endpoint's tickets: the oldest that is pending comes next.
use Rattle.std.specs.Prelude.{ℕ, ◌≡◌, false, List, [], ◌∷◌, ◌++◌, slice_get, Some}
use Rattle.usb_xfer.specs.declared.transfer.Completion.{Completion}
use Rattle.usb_kernel.specs.TransferCompletions.{transfer_completion}
use Rattle.usb_script_lines.specs.declared.item.Item.{Item}
use Rattle.usb_script_lines.specs.declared.item.Item.TheVariants.{Poll}
use Rattle.usb_session_text.specs.Completions.{done_line, polled_line}
use Rattle.usb_session_calls.specs.Names.{named}
use Rattle.usb_session_calls.specs.State.{State, Endpoint}
use Rattle.usb_session_calls.specs.EndpointNames.{EndpointName}
use Rattle.usb_session_calls.specs.Answer.{Answer}
use Rattle.usb_session.specs.Crowded.{is_crowded}
use Rattle.usb_session.specs.Answers.{answer}
use Rattle.usb_session.specs.Output.{start, behind}
use Rattle.usb_session.specs.Served.{taken_under}

-- while the session is not crowded, a poll answers for the endpoint's oldest pending ticket: with the completion that the journal has
-- of it, and `pending` exactly where it has none
abbrev pub PollAnswersForItsPlace : State → ℕ → Type 0
PollAnswersForItsPlace state e =
    (h : Endpoint) (t : ℕ) → is_crowded state ≡ false → named state.endpoints e ≡ Some h → slice_get h.state.pending 0 ≡ Some t →
    (answer state (Poll e)).line ≡ polled_line (transfer_completion state.host.kernel.past t)

-- so does each poll of a script
abbrev pub PollsAnswer : List Item → Type 0
PollsAnswer items =
    (before after : List Item) (e : ℕ) → before ++ Poll e ∷ after ≡ items → PollAnswersForItsPlace (behind (start items) before) e

-- the law: from whatever state, and so in each script
abbrev pub PollsAnswerForTheirPlace : Type 0
PollsAnswerForTheirPlace = (state : State) (e : ℕ) → PollAnswersForItsPlace state e

abbrev pub PollsOfScriptsAnswer : Type 0
PollsOfScriptsAnswer = (items : List Item) → PollsAnswer items

-- an answer takes a ticket from what is open under some name
abbrev pub TakesOne : State → Answer → Type 0
TakesOne state a = (e : EndpointName) × (t : ℕ) × (taken_under a.state e ≡ taken_under state e ++ t ∷ [])

-- a line with a completion is printed only where a ticket is taken
abbrev pub CompletionsAreTaken : Type 0
CompletionsAreTaken =
    (state : State) (item : Item) (c : Completion) → (answer state item).line ≡ done_line c → TakesOne state (answer state item)
