-- A session whose lines are all answered.
use Rattle.std.specs.Prelude.{ℕ, ◌≡◌, List}
use Rattle.std.specs.declared.option.Option.{Option}
use Rattle.usb_script_lines.specs.declared.item.Item.{Item}
use Rattle.usb_session_calls.specs.State.{State}
use Rattle.usb_session_calls.specs.SessionState.{SessionState}
use Rattle.usb_session_calls.specs.Relation.{Represents}
use Rattle.usb_session.specs.Ends.{ended}
use Rattle.usb_session.specs.Fates.{fate_lines}
use Rattle.usb_session.specs.Output.{output, final_host}
use Rattle.usb_session_run.specs.Causes.{Wrote}

-- of the output all was written but the fate lines, and the end of the session leads to the script's last host
pub record AllAnswered (old new : Option (List ℕ)) (s : SessionState) (items : List Item) : Type 0 where
  pub now : State
  pub stands : Represents s now
  pub wrote : Wrote old new (output items) (fate_lines (ended now))
  pub leads : ended now ≡ final_host items
