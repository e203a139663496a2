-- `list` and `buses`: the devices and the buses of the tree, or why there is no listing.
use Rattle.std.specs.Prelude.{List, Result, Ok, Err}
use Rattle.usb_error.specs.ErrorState.{ErrorState}
use Rattle.usb_enum.specs.Buses.{BusFacts, buses}
use Rattle.usb_enum.specs.Devices.{DeviceFacts}
use Rattle.usb_enum.specs.Listing.{devices}
use Rattle.usb_session_tree.specs.Buses.{buses_line}
use Rattle.usb_session_tree.specs.Listings.{devices_line}
use Rattle.usb_session_calls.specs.State.{State}
use Rattle.usb_session_calls.specs.Answer.{Answer, answer_with, error_answer}

abbrev pub listed : State → Result (List DeviceFacts) ErrorState → Answer
listed state (Ok devices) = answer_with state (devices_line devices)
listed state (Err error) = error_answer state error

unfoldable pub list_answer : State → Answer
list_answer state = listed state (devices state.tree)

abbrev pub listed_buses : State → Result (List BusFacts) ErrorState → Answer
listed_buses state (Ok buses) = answer_with state (buses_line buses)
listed_buses state (Err error) = error_answer state error

unfoldable pub buses_answer : State → Answer
buses_answer state = listed_buses state (buses state.tree)
