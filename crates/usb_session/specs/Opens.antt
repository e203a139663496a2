-- `open` and `openpath`: a device is opened at its bus and address, or at those that its folder tells. They are barred where the name is in use.
use Rattle.std.specs.Prelude.{ℕ, List, Result, Ok, Err, if◌then◌else◌}
use Rattle.usb_error.specs.ErrorState.{ErrorState}
use Rattle.usb_device_host.specs.Opens.{host_opened, open_key}
use Rattle.usb_enum_sysfs.specs.declared.sysfs.SysfsError.{SysfsError}
use Rattle.usb_enum.specs.Devices.{DeviceFacts}
use Rattle.usb_enum.specs.Probing.{probe}
use Rattle.usb_session_tree.specs.Attributes.{sysfs_line}
use Rattle.usb_session_calls.specs.Names.{is_free, set_name}
use Rattle.usb_session_calls.specs.State.{State, with_host}
use Rattle.usb_session_calls.specs.Answer.{Answer, answer_with, condition_answer, ok_answer, error_answer}

-- where it is not refused, a handle of this key is open under the name
abbrev pub opened_as : State → ℕ → Result ℕ ErrorState → Answer
opened_as state d (Err error) = error_answer state error
opened_as state d (Ok key) = ok_answer (record state { devices = set_name state.devices d key })

-- the host is what the call left, whatever it answers
abbrev pub opened_at : State → ℕ → ℕ → ℕ → Answer
opened_at state d bus address = opened_as (with_host state (host_opened state.host bus address)) d (open_key state.host bus address)

unfoldable pub open_answer : State → ℕ → ℕ → ℕ → Answer
open_answer state d bus address = if is_free state.devices d then opened_at state d bus address else condition_answer state

-- where probing the folder fails, the host is not asked
abbrev pub opened_probed : State → ℕ → Result DeviceFacts SysfsError → Answer
opened_probed state d (Err error) = answer_with state (sysfs_line error)
opened_probed state d (Ok device) = opened_at state d device.numbers.busnum device.numbers.address

unfoldable pub open_path_answer : State → ℕ → List ℕ → Answer
open_path_answer state d path = if is_free state.devices d then opened_probed state d (probe state.tree path) else condition_answer state
