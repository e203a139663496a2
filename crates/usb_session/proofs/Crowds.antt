-- A line is answered as its call is, where the session is not crowded, or goes on as its steps alone.
use Rattle.std.proofs.lemmas.Bool.{cond_both}
use Rattle.usb_script_lines.specs.declared.item.Item.{Item}
use Rattle.usb_script_lines.specs.ItemKinds.{steps_in}
use Rattle.usb_session_calls.specs.declared.call.Call.{Call}
use Rattle.usb_session_calls.specs.declared.call.Call.TheVariants.{Steps}
use Rattle.usb_session_calls.specs.State.{State}
use Rattle.usb_session_calls.specs.Answer.{Answer, condition_answer}
use Rattle.usb_session_calls.specs.Steps.{stepped_all}
use Rattle.usb_session_calls.specs.Calls.{call_of}
use Rattle.usb_session.specs.Crowded.{bars_line}
use Rattle.usb_session.specs.CallAnswers.{call_answer, line_answer}
use Rattle.usb_session.specs.Answers.{answer}

-- so what is true of the state behind each call is true of that behind the answer to a line
pub over-line : (P : State → Type 0) (state : State) (line : Item) → ((call : Call) → P (call_answer state call).state) → P (answer state line).state
unfolding answer call_answer
over-line P state line each =
    cond_both (bars_line state line) (condition_answer (stepped_all state (steps_in line))) (line_answer state line) (λ (a : Answer). P a.state) (λ yes_. each (Steps (steps_in line))) (λ no_. each (call_of line))
