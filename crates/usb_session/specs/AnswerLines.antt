-- The lines that answer items.
use Rattle.std.specs.Prelude.{ℕ, List, [], ◌∷◌, ◌++◌}
use Rattle.usb_script_lines.specs.declared.item.Item.{Item}
use Rattle.usb_session_calls.specs.State.{State}
use Rattle.usb_session.specs.Answers.{answer}

-- the answers to these items from a state on, one behind the other
abbrev pub answer_lines : State → List Item → List ℕ
answer_lines state [] = []
answer_lines state (item ∷ items) = (answer state item).line ++ answer_lines (answer state item).state items
