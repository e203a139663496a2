-- What each line of a script is answered.
use Rattle.std.specs.Prelude.{if◌then◌else◌}
use Rattle.usb_script_lines.specs.declared.item.Item.{Item}
use Rattle.usb_script_lines.specs.ItemKinds.{steps_in}
use Rattle.usb_session_calls.specs.State.{State}
use Rattle.usb_session_calls.specs.Answer.{Answer, condition_answer}
use Rattle.usb_session_calls.specs.Steps.{stepped_all}
use Rattle.usb_session.specs.Crowded.{bars_line}
use Rattle.usb_session.specs.CallAnswers.{line_answer}

-- the steps of a barred call are applied
unfoldable pub answer : State → Item → Answer
answer state item = if bars_line state item then condition_answer (stepped_all state (steps_in item)) else line_answer state item
