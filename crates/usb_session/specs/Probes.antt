-- `probe` and `match`: what a folder of the tree tells of a device, and whether the device is one that is looked for; or the
-- attribute that gave no value.
use Rattle.std.specs.Prelude.{ℕ, Bool, List, Result, Ok, Err}
use Rattle.usb_enum_sysfs.specs.declared.sysfs.SysfsError.{SysfsError}
use Rattle.usb_enum.specs.Devices.{DeviceFacts}
use Rattle.usb_enum.specs.Probing.{probe}
use Rattle.usb_script_words.specs.declared.selector.Criterion.{Criterion}
use Rattle.usb_session_tree.specs.Selecting.{matched}
use Rattle.usb_session_tree.specs.Attributes.{match_line, sysfs_line}
use Rattle.usb_session_tree.specs.Devices.{info_line}
use Rattle.usb_session_calls.specs.State.{State}
use Rattle.usb_session_calls.specs.Answer.{Answer, answer_with}

abbrev pub probed : State → Result DeviceFacts SysfsError → Answer
probed state (Ok device) = answer_with state (info_line device)
probed state (Err error) = answer_with state (sysfs_line error)

unfoldable pub probe_answer : State → List ℕ → Answer
probe_answer state path = probed state (probe state.tree path)

abbrev pub looked_for : State → Result Bool SysfsError → Answer
looked_for state (Ok is_match) = answer_with state (match_line is_match)
looked_for state (Err error) = answer_with state (sysfs_line error)

unfoldable pub match_answer : State → List ℕ → List Criterion → Answer
match_answer state path selector = looked_for state (matched state.tree path selector)
