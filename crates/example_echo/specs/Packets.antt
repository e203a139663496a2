-- One packet is read from a device that is opened for it.
use Rattle.std.specs.Prelude.{ℕ, ◌≡◌, false, [], ◌∷◌, length, Option, Some, None, Result, Ok, Err}
use Rattle.usb_desc.specs.declared.error.Fail.{Fail}
use Rattle.usb_desc.specs.declared.error.Fail.TheVariants.{Cause, Memory}
use Rattle.usb_desc.specs.declared.types.Direction.TheVariants.{In}
use Rattle.usb_desc.specs.declared.types.TransferType.TheVariants.{Bulk}
use Rattle.usb_error.specs.ErrorState.{ErrorState}
use Rattle.usb_error.specs.Errors.{no_endpoint_error}
use Rattle.usb_error.specs.Outcomes.{◌>>=◌}
use Rattle.usb_xfer.specs.declared.transfer.Completion.{Completion}
use Rattle.usb_kernel.specs.Tickets.{tickets}
use Rattle.usb_device_endpoint.specs.EndpointState.{EndpointState}
use Rattle.usb_device_endpoint.specs.Submits.{entered}
use Rattle.usb_device_endpoint.specs.Waits.{Polled, wait_next}
use Rattle.usb_device_endpoint.specs.Closes.{after_close}
use Rattle.usb_device_tables.specs.History.{value_at}
use Rattle.usb_device_ledger.specs.Entries.{ClaimedInterface}
use Rattle.usb_device_host.specs.HostState.{HostState}
use Rattle.usb_device_host.specs.HostCalls.{host_calls}
use Rattle.usb_device_host.specs.Handles.{handle_closed}
use Rattle.usb_device_host.specs.EndpointOpens.{fresh_endpoint, host_asked, host_tries, with_endpoint}
use Rattle.usb_device.specs.InterfaceAnswers.{interface_answer}
use Rattle.example_echo.specs.Claims.{claimed, claimed_as}

-- what came of the packet, if it came, and the host that is left
pub record PacketRead : Type 0 where
  pub completion : Option Completion
  pub host : HostState

-- the endpoint is closed, which cancels what is on its way
abbrev pub read_by : Polled HostState → PacketRead
read_by p = record { completion = p.completion; host = after_close host_calls p.bus p.endpoint }

-- a buffer of 64 bytes is handed in at an endpoint, and its transfer is waited for by a second (10^9
-- nanoseconds)
unfoldable pub read_at : HostState → EndpointState → PacketRead
read_at h e =
    read_by
    (wait_next host_calls 1000000000
    (entered host_calls h e None (record { bytes = []; requested = 64; room = 64 }))
    (record e { pending = length (tickets h.kernel.past) ∷ [] }))

-- the endpoint 0x81 of the claimed interface of a key is opened, and the interface's handle is closed
abbrev pub read_on : HostState → ℕ → Option ClaimedInterface → Result PacketRead ErrorState
read_on h key None = Err no_endpoint_error
read_on h key (Some c) =
    let asked = host_asked h c.opened in
    host_tries asked key c 129 Bulk In
    >>= λ size. Ok
    (read_at (handle_closed (with_endpoint asked key 129) key)
    (fresh_endpoint c 129 Bulk size (length h.endpoints)))

-- the device at bus 1 and address 6, its interface 0 and that endpoint, of which the first that is
-- refused is the error
unfoldable pub packet_read : HostState → Result PacketRead ErrorState
packet_read h =
    let host = claimed h 1 6 in
    let key = claimed_as h 1 6 in
    do
      done ← interface_answer h 1 6 0 false
      read_on host key (value_at host.interfaces key)

-- a call gives what came, and leaves that host. Want of memory comes whenever it does
abbrev pub ReadsPacket : HostState → HostState → Result (Option Completion) (Fail ErrorState) → Type 0
ReadsPacket old new (Ok found) =
    packet_read old ≡ Ok (record { completion = found; host = new })
ReadsPacket old new (Err (Cause error)) = packet_read old ≡ Err error
ReadsPacket old new (Err Memory) = Unit {0}
