-- `endpoint`: an endpoint of a claimed interface is opened. It is barred where the interface is not open, or the endpoint's name is in use.
use Rattle.std.specs.Prelude.{ℕ, false, [], length, Result, Ok, Err, if◌then◌else◌}
use Rattle.usb_desc.specs.declared.types.Direction.{Direction}
use Rattle.usb_desc.specs.declared.types.TransferType.{TransferType}
use Rattle.usb_error.specs.ErrorState.{ErrorState}
use Rattle.usb_device_host.specs.HostState.{HostState}
use Rattle.usb_device_host.specs.EndpointOpens.{host_asked, host_tries, with_endpoint}
use Rattle.usb_session_calls.specs.Names.{is_free, set_name}
use Rattle.usb_session_calls.specs.State.{State, Endpoint, with_host}
use Rattle.usb_session_calls.specs.OpenAt.{InterfaceAt, interface_at}
use Rattle.usb_session_calls.specs.Answer.{Answer, condition_answer, ok_answer, error_answer, if_open}

-- an endpoint with no ticket, and the next key
abbrev pub new_endpoint : HostState → ℕ → ℕ → TransferType → ℕ → Endpoint
new_endpoint h device address kind maximum =
    record {
      state = record { device = device; address = address; kind = kind; maximum = maximum; key = length h.endpoints; pending = [] };
      taken = [];
      was_streamed = false;
    }

-- by what the host answers: the endpoint is open under its name, or the error is printed
abbrev pub endpoint_as : State → ℕ → ℕ → TransferType → InterfaceAt → Result ℕ ErrorState → Answer
endpoint_as state e address kind x (Err error) = error_answer state error
endpoint_as state e address kind x (Ok maximum) =
    ok_answer (record state {
      host = with_endpoint state.host x.handle.key address;
      endpoints = set_name state.endpoints e (new_endpoint state.host x.claimed.device address kind maximum);
    })

-- `host` is the host once the kernel was asked for the configuration: the endpoint is looked for there
abbrev pub endpoint_asked : State → ℕ → ℕ → TransferType → Direction → InterfaceAt → HostState → Answer
endpoint_asked state e address kind direction x host =
    endpoint_as (with_host state host) e address kind x (host_tries host x.handle.key x.claimed address kind direction)

-- on an interface that is claimed (x)
abbrev pub endpoint_on : State → ℕ → ℕ → TransferType → Direction → InterfaceAt → Answer
endpoint_on state e address kind direction x =
    if is_free state.endpoints e then endpoint_asked state e address kind direction x (host_asked state.host x.claimed.opened)
    else condition_answer state

-- the answer, by the interface's name
unfoldable pub endpoint_answer : State → ℕ → ℕ → ℕ → TransferType → Direction → Answer
endpoint_answer state e i address kind direction =
    if_open (interface_at state i) (endpoint_on state e address kind direction) (condition_answer state)
