-- The end of a session: what is open is closed, clients of messages by number, then readers, then writers, then endpoints, then futures,
-- then interfaces and then devices, each by number; then the tickets are discarded by number, and reaped by number.
use Rattle.std.specs.Prelude.{ℕ, Option, Some, None}
use Rattle.usb_device_host.specs.HostState.{HostState}
use Rattle.usb_device_host.specs.Finishes.{finished}
use Rattle.usb_device_host.specs.HandleStates.{InterfaceState}
use Rattle.usb_device.specs.Futures.{FutureState}
use Rattle.usb_session_calls.specs.Names.{named}
use Rattle.usb_session_calls.specs.State.{State}
use Rattle.usb_session.specs.Below.{below}
use Rattle.usb_session_calls.specs.Closes.{closed, without_future, without_interface, without_device}
use Rattle.usb_session_calls.specs.Readers.{reader_closed}
use Rattle.usb_session_calls.specs.Writers.{writer_closed}
use Rattle.usb_session_calls.specs.Clients.{client_closed}

-- the clients of the names below k are closed, in order; and so the readers, the writers, the endpoints and the others
abbrev pub clients_closed : State → ℕ → State
clients_closed = below client_closed

abbrev pub readers_closed : State → ℕ → State
readers_closed = below reader_closed

abbrev pub writers_closed : State → ℕ → State
writers_closed = below writer_closed

abbrev pub endpoints_closed : State → ℕ → State
endpoints_closed = below closed

-- the future that is open under a name is closed, if there is one
abbrev pub future_closed_at : State → ℕ → Option FutureState → State
future_closed_at state n None = state
future_closed_at state n (Some f) = without_future state n f

-- the same, with the name looked up
unfoldable pub future_closed_under : State → ℕ → State
future_closed_under state n = future_closed_at state n (named state.futures n)

abbrev pub futures_closed : State → ℕ → State
futures_closed = below future_closed_under

-- the interface that is open under a name is closed, if there is one
abbrev pub interface_closed_at : State → ℕ → Option InterfaceState → State
interface_closed_at state i None = state
interface_closed_at state i (Some f) =
    without_interface state i f

-- the same, with the name looked up
unfoldable pub interface_closed : State → ℕ → State
interface_closed state i = interface_closed_at state i (named state.interfaces i)

abbrev pub interfaces_closed : State → ℕ → State
interfaces_closed = below interface_closed

-- the device that is open under a name is closed, if there is one
abbrev pub device_closed_at : State → ℕ → Option ℕ → State
device_closed_at state d None = state
device_closed_at state d (Some key) = without_device state d key

-- the same, with the name looked up
unfoldable pub name_closed : State → ℕ → State
name_closed state d = device_closed_at state d (named state.devices d)

abbrev pub devices_closed : State → ℕ → State
devices_closed = below name_closed

-- all clients, then all readers and all writers, whose endpoints go with them
abbrev pub streams_closed : State → State
streams_closed state = writers_closed (readers_closed (clients_closed state 64) 64) 64

-- and then all endpoints, all futures, all interfaces and all devices are closed
unfoldable pub all_closed : State → State
all_closed state = devices_closed (interfaces_closed (futures_closed (endpoints_closed (streams_closed state) 64) 64) 64) 64

-- the host at the end of the session
unfoldable pub ended : State → HostState
ended state = finished (all_closed state).host
