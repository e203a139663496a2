-- `clone`: one more handle of an open device, or of a claimed interface. It is barred where that is not open, or the new name is in use.
use Rattle.std.specs.Prelude.{ℕ, if◌then◌else◌}
use Rattle.usb_device_host.specs.HandleStates.{InterfaceState}
use Rattle.usb_device_host.specs.Handles.{device_cloned, handle_cloned}
use Rattle.usb_session_calls.specs.Names.{named, is_free, set_name}
use Rattle.usb_session_calls.specs.State.{State}
use Rattle.usb_session_calls.specs.Answer.{Answer, condition_answer, ok_answer, if_open}

-- a handle of the device of this key is open under a name
abbrev pub with_handle : State → ℕ → ℕ → State
with_handle state name key =
    record state { host = device_cloned state.host key; devices = set_name state.devices name key }

-- the answer to `clone` of a device
unfoldable pub clone_device_answer : State → ℕ → ℕ → Answer
clone_device_answer state name d =
    if_open (named state.devices d) (λ key. if is_free state.devices name then ok_answer (with_handle state name key) else condition_answer state) (condition_answer state)

-- one more handle of an interface is open, under a name
abbrev pub with_clone : State → ℕ → InterfaceState → State
with_clone state name f =
    record state { host = handle_cloned state.host f.key; interfaces = set_name state.interfaces name f }

-- the answer to `clone` of an interface
unfoldable pub clone_interface_answer : State → ℕ → ℕ → Answer
clone_interface_answer state name i =
    if_open (named state.interfaces i) (λ f. if is_free state.interfaces name then ok_answer (with_clone state name f) else condition_answer state) (condition_answer state)
