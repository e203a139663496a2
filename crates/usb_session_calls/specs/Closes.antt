-- `cancel`, `close` and `release`, which are barred where nothing is open under the name.
--
-- The pending transfers of an endpoint are discarded, from the last to the first; at its close they are then given up, and its
-- key is open no more. A future is closed: its ticket is given up, and nothing is discarded. A handle of a device or of an
-- interface is closed; a release is refused where the interface has another owner.
use Rattle.std.specs.Prelude.{ℕ, Option, Some, None, if◌then◌else◌}
use Rattle.usb_device_endpoint.specs.Closes.{all_discarded, after_close}
use Rattle.usb_device_host.specs.HostCalls.{host_discarded, host_calls}
use Rattle.usb_device_host.specs.HandleStates.{InterfaceState}
use Rattle.usb_device_host.specs.Handles.{device_closed, handle_closed}
use Rattle.usb_device.specs.Futures.{FutureState, future_closed}
use Rattle.usb_device_host.specs.Owners.{is_shared}
use Rattle.usb_error.specs.Errors.{interface_in_use_error}
use Rattle.usb_session_calls.specs.Names.{named, freed}
use Rattle.usb_session_calls.specs.State.{State, Endpoint, with_host}
use Rattle.usb_session_calls.specs.OpenAt.{InterfaceAt, interface_at}
use Rattle.usb_session_calls.specs.Answer.{Answer, condition_answer, ok_answer, error_answer, if_open}

-- what is pending at an endpoint is discarded
abbrev pub cancelled : State → Endpoint → State
cancelled state h = with_host state (all_discarded host_discarded state.host h.state.pending)

-- an endpoint is closed, and its name is free
abbrev pub without_endpoint : State → ℕ → Endpoint → State
without_endpoint state e h =
    record state { host = after_close host_calls state.host h.state; endpoints = freed state.endpoints e }

-- the answer to `close` of an endpoint
unfoldable pub close_answer : State → ℕ → Answer
close_answer state e = if_open (named state.endpoints e) (λ h. ok_answer (without_endpoint state e h)) (condition_answer state)

-- what is open under a name is closed, if anything is
abbrev pub closed_at : State → ℕ → Option Endpoint → State
closed_at state e None = state
closed_at state e (Some h) = without_endpoint state e h

-- the same, with the name looked up
unfoldable pub closed : State → ℕ → State
closed state e = closed_at state e (named state.endpoints e)

-- a future is closed, and its name is free: its transfer goes on, and is given up
abbrev pub without_future : State → ℕ → FutureState → State
without_future state n f = record state { host = future_closed state.host f; futures = freed state.futures n }

-- the answer to `close` of a future
unfoldable pub close_future_answer : State → ℕ → Answer
close_future_answer state n = if_open (named state.futures n) (λ f. ok_answer (without_future state n f)) (condition_answer state)

-- a handle of a device is closed, and its name is free
abbrev pub without_device : State → ℕ → ℕ → State
without_device state d key =
    record state { host = device_closed state.host key; devices = freed state.devices d }

unfoldable pub close_device_answer : State → ℕ → Answer
close_device_answer state d =
    if_open (named state.devices d) (λ key. ok_answer (without_device state d key)) (condition_answer state)

-- a handle of an interface is closed, and its name is free
abbrev pub without_interface : State → ℕ → InterfaceState → State
without_interface state i f =
    record state { host = handle_closed state.host f.key; interfaces = freed state.interfaces i }

-- the answer to `close` of an interface
unfoldable pub close_interface_answer : State → ℕ → Answer
close_interface_answer state i =
    if_open (named state.interfaces i) (λ f. ok_answer (without_interface state i f)) (condition_answer state)

-- the name stays where it is refused
abbrev pub release_on : State → ℕ → InterfaceAt → Answer
release_on state i x =
    if is_shared state.host x.handle.key x.claimed then error_answer state interface_in_use_error
    else ok_answer (without_interface state i x.handle)

-- the answer to `release`
unfoldable pub release_answer : State → ℕ → Answer
release_answer state i = if_open (interface_at state i) (release_on state i) (condition_answer state)
