-- The two endpoints of a device that answers messages.
use Rattle.std.specs.Prelude.{◌≡◌, ◌≢◌, false, [], None, unwrap_or}
use Rattle.usb_device_endpoint.specs.BusState.{BusState}
use Rattle.usb_device_endpoint.specs.EndpointState.{EndpointState}
use Rattle.usb_device_endpoint.specs.Handles.{Stands}
use Rattle.usb_device_host.specs.HostState.{HostState}
use Rattle.usb_device_host.specs.HostBus.{key_at}
use Rattle.usb_io.specs.Readers.{ReaderState, fresh_reader}
use Rattle.usb_io.specs.Writers.{WriterState, fresh_writer}
use Rattle.example_messages.specs.declared.messages.TheConstants.{TRANSFER_SIZE, TIMEOUT}

-- the reader of its IN endpoint, and the writer of its OUT endpoint
pub record MessagesState : Type 0 where
  pub reader : ReaderState
  pub writer : WriterState

-- those over two endpoints, to begin with
abbrev pub fresh_messages : EndpointState → EndpointState → MessagesState
fresh_messages input output = record {
  reader = record (fresh_reader input TRANSFER_SIZE) { timeout = TIMEOUT };
  writer = record (fresh_writer output TRANSFER_SIZE) { timeout = TIMEOUT };
}

-- so the driver begins, and begins anew
abbrev pub IsFresh : MessagesState → Type 0
IsFresh m = m ≡ fresh_messages m.reader.endpoint m.writer.endpoint

-- nothing of an earlier request is left: no transfer is pending, no byte is unread or unsent, and
-- no end and no error stands
pub record IsSettled (m : MessagesState) : Type 0 where
  pub input : m.reader.endpoint.pending ≡ []
  pub output : m.writer.endpoint.pending ≡ []
  pub unread : m.reader.unread ≡ []
  pub ended : m.reader.ended ≡ false
  pub error : m.reader.error ≡ None
  pub unsent : unwrap_or m.writer.buffer [] ≡ []

-- the endpoint that is read and the one that is written to stand at a bus, each with a key of its
-- own
pub record BothStand (b : BusState) (source target : EndpointState) : Type 0 where
  pub input : Stands b source
  pub output : Stands b target
  pub apart : source.key ≢ target.key

abbrev pub IsOpen : BusState → MessagesState → Type 0
IsOpen b m = BothStand b m.reader.endpoint m.writer.endpoint

-- an endpoint is the same but for what is pending
abbrev pub IsSame : EndpointState → EndpointState → Type 0
IsSame e e' = e' ≡ record e { pending = e'.pending }

-- both endpoints are
pub record KeepsEndpoints (m m' : MessagesState) : Type 0 where
  pub input : IsSame m.reader.endpoint m'.reader.endpoint
  pub output : IsSame m.writer.endpoint m'.writer.endpoint

-- each other endpoint that stood stands
abbrev pub OthersStand : BusState → BusState → EndpointState → EndpointState → Type 0
OthersStand old new source target =
    (e : EndpointState) → e.key ≢ source.key → e.key ≢ target.key → Stands old e → Stands new e

abbrev pub StandBeside : BusState → BusState → MessagesState → Type 0
StandBeside old new m = OthersStand old new m.reader.endpoint m.writer.endpoint

-- the host has neither endpoint open
pub record BothClosed (h : HostState) (source target : EndpointState) : Type 0 where
  pub input : key_at h.endpoints source.key ≡ false
  pub output : key_at h.endpoints target.key ≡ false

abbrev pub IsClosed : HostState → MessagesState → Type 0
IsClosed h m = BothClosed h m.reader.endpoint m.writer.endpoint
