-- A poll answers for its endpoint's oldest pending ticket.
use Rattle.std.proofs.Common.{◌≡◌, ℕ, [], Option, Some, None, refl}
use Rattle.usb_xfer.specs.declared.transfer.Completion.{Completion}
use Rattle.usb_kernel.specs.TransferCompletions.{transfer_completion}
use Rattle.usb_session_text.specs.Completions.{polled_line}
use Rattle.usb_session_calls.specs.State.{State}
use Rattle.usb_session_calls.specs.Polls.{took}
use Rattle.usb_session_calls.specs.Steps.{with_steps}
use Rattle.usb_session_calls.specs.Calls.{call_of}
use Rattle.usb_session_calls.specs.EndpointCalls.{on_endpoint}
use Rattle.usb_session.specs.CallAnswers.{call_answer}
use Rattle.usb_session.specs.Answers.{answer}
use Rattle.usb_session.specs.Output.{start, behind}
use Rattle.usb_session.specs.Places.{PollsAnswerForTheirPlace, PollsOfScriptsAnswer}

took-line : (state : State) (e t : ℕ) (o : Option Completion) → (took polled_line state e t o).line ≡ polled_line o
took-line state e t None = refl
took-line state e t (Some c) = refl

pub polls-for_their_place : PollsAnswerForTheirPlace
unfolding answer call_of call_answer on_endpoint
polls-for_their_place state e h t free is at =
    rw (free, is, at) (took-line (with_steps state []) e t (transfer_completion state.host.kernel.past t))

-- so in each script
pub polls-of_scripts : PollsOfScriptsAnswer
polls-of_scripts items before after e all = polls-for_their_place (behind (start items) before) e
