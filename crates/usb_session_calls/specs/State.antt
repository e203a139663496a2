-- The state that answers depend on.
use Rattle.std.specs.Prelude.{ℕ, Bool, true, List, ◌++◌, Option, length}
use Rattle.usb_kernel.specs.Tickets.{tickets}
use Rattle.usb_enum_sysfs.specs.Tree.{Tree}
use Rattle.usb_enum.specs.declared.hotplug.UdevPacket.{UdevPacket}
use Rattle.usb_device_endpoint.specs.EndpointState.{EndpointState}
use Rattle.usb_device_host.specs.HostState.{HostState}
use Rattle.usb_device_host.specs.HandleStates.{InterfaceState}
use Rattle.usb_device.specs.Futures.{FutureState}
use Rattle.usb_io.specs.Readers.{ReaderState}
use Rattle.usb_io.specs.Streams.{Mark}
use Rattle.usb_io.specs.Writers.{WriterState}
use Rattle.usb_msg.specs.Clients.{ClientState}
use Rattle.usb_session_streams.specs.Told.{WriterCalls}

-- an open endpoint: as its calls see it, which keep its pending tickets; those that were taken, in the order of submission; and
-- whether a reader or a writer was made of it
pub record Endpoint : Type 0 where
  pub state : EndpointState
  pub taken : List ℕ
  pub was_streamed : Bool

-- its tickets, in the order of submission
abbrev pub tickets_at : Endpoint → List ℕ
tickets_at h = h.taken ++ h.state.pending

-- an open reader: as its calls see it, with its endpoint; the tickets that were taken of that before the reader was made, and
-- those that the reader took; and the bytes that it handed over, by reads and by the taking off of bytes that stand. While it is
-- framed (its endpoint had no ticket before, and it is read until short packets alone) also what it consumed: the bytes that reads
-- handed over or `sconsume` took off, and the ends that `endmsg` did
pub record Reader : Type 0 where
  pub state : ReaderState
  pub before : List ℕ
  pub taken : List ℕ
  pub given : List ℕ
  pub consumed : Option (List Mark)

-- an open writer: as its calls see it, with its endpoint, and the tickets that were taken of that. While it alone used its endpoint
-- (which had no ticket before) also its accepted calls, and the failed transfers that its calls answered
pub record Writer : Type 0 where
  pub state : WriterState
  pub taken : List ℕ
  pub calls : Option WriterCalls

-- an open client of messages: as its calls see it, with both endpoints; of the endpoint of its writer the tickets that were taken
-- before the client was made, and those that its writer took, and so of its reader's; and the bodies of the requests that it
-- accepted, and of the responses that it answered, in order
pub record Client : Type 0 where
  pub state : ClientState
  pub before_out : List ℕ
  pub sent : List ℕ
  pub before_in : List ℕ
  pub received : List ℕ
  pub requests : List (List ℕ)
  pub responses : List (List ℕ)

-- the endpoints that they hold
abbrev pub endpoint_of_reader : Reader → Endpoint
endpoint_of_reader x = record { state = x.state.endpoint; taken = x.before ++ x.taken; was_streamed = true }

abbrev pub endpoint_of_writer : Writer → Endpoint
endpoint_of_writer x = record { state = x.state.endpoint; taken = x.taken; was_streamed = true }

abbrev pub endpoint_of_client_writer : Client → Endpoint
endpoint_of_client_writer x =
    record { state = x.state.writer.endpoint; taken = x.before_out ++ x.sent; was_streamed = true }

abbrev pub endpoint_of_client_reader : Client → Endpoint
endpoint_of_client_reader x =
    record { state = x.state.reader.endpoint; taken = x.before_in ++ x.received; was_streamed = true }

-- the host, and what is open by the number of its name: the keys of devices, the interfaces, the endpoints, the readers, the
-- writers, the clients of messages, and the control transfers on their way (futures); the tree of attributes, and the packets of
-- udev that are still to be looked at
pub record State : Type 0 where
  pub host : HostState
  pub devices : List (Option ℕ)
  pub interfaces : List (Option InterfaceState)
  pub endpoints : List (Option Endpoint)
  pub readers : List (Option Reader)
  pub writers : List (Option Writer)
  pub clients : List (Option Client)
  pub futures : List (Option FutureState)
  pub tree : Tree
  pub packets : List UdevPacket

-- the number of tickets
abbrev pub tickets_of : State → ℕ
tickets_of state = length (tickets state.host.kernel.past)

-- the state with another host
abbrev pub with_host : State → HostState → State
with_host state host = record state { host = host }
