-- `hotplug`: the next packet of udev is looked at, if there is one.
use Rattle.std.specs.Prelude.{drop}
use Rattle.usb_enum.specs.Hotplug.{hotplug_polled}
use Rattle.usb_session_tree.specs.Events.{hotplug_line}
use Rattle.usb_session_calls.specs.State.{State}
use Rattle.usb_session_calls.specs.Answer.{Answer, answer_with}

unfoldable pub hotplug_answer : State → Answer
hotplug_answer state = answer_with (record state { packets = drop 1 state.packets }) (hotplug_line (hotplug_polled state.tree state.packets))
