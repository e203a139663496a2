-- `claim` and `detachclaim`: an interface of an open device is claimed, as it is, or (`reattach`) with its kernel driver detached, which is attached again when the claim ends. They are barred where the device is not open, or the interface's name is in use.
use Rattle.std.specs.Prelude.{ℕ, Bool, length, Result, Ok, Err, if◌then◌else◌}
use Rattle.usb_error.specs.ErrorState.{ErrorState}
use Rattle.usb_device_host.specs.InterfaceClaims.{claim_tried, claimed_key, host_claimed}
use Rattle.usb_session_calls.specs.Names.{is_free, set_name}
use Rattle.usb_session_calls.specs.State.{State, with_host}
use Rattle.usb_session_calls.specs.OpenAt.{DeviceAt, device_at}
use Rattle.usb_session_calls.specs.Answer.{Answer, condition_answer, ok_answer, error_answer, if_open}

-- where it is not refused, a handle of this key is open under the name
abbrev pub claimed_as : State → ℕ → ℕ → Result ℕ ErrorState → Answer
claimed_as state number i (Err error) = error_answer state error
claimed_as state number i (Ok key) =
    ok_answer (record state { interfaces = set_name state.interfaces i (record { key = key; number = number }) })

-- the host is what the call left, whatever it answers
abbrev pub claim_on : State → ℕ → ℕ → Bool → DeviceAt → Answer
claim_on state number i reattach x =
    if is_free state.interfaces i
    then claimed_as (with_host state (host_claimed state.host x.key number reattach)) number i
    (claimed_key (length state.host.interfaces) (claim_tried state.host x.opened number reattach))
    else condition_answer state

-- the answer, by the device's name
unfoldable pub claim_answer : State → ℕ → ℕ → ℕ → Bool → Answer
claim_answer state d number i reattach = if_open (device_at state d) (claim_on state number i reattach) (condition_answer state)
