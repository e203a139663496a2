-- What a client of messages is to its users.
use Rattle.std.specs.Prelude.{ℕ, ◌+◌, ◌-◌, ◌^◌, ◌≤◌, ◌≡◌, ◌≢◌, List, [], unwrap_or, Option, None, if◌then◌else◌}
use Rattle.usb_kernel.specs.WholePackets.{is_whole}
use Rattle.usb_device_endpoint.specs.BusState.{BusState}
use Rattle.usb_device_endpoint.specs.Handles.{Stands}
use Rattle.usb_device_endpoint.specs.EndpointState.{EndpointState}
use Rattle.usb_io.specs.Readers.{ReaderState, fresh_reader}
use Rattle.usb_io.specs.Writers.{WriterState, fresh_writer}
use Rattle.usb_msg.specs.declared.error.Ending.{Ending}

-- the writer of the requests and the reader of the responses, how many requests were accepted and
-- how many responses were answered, the bytes of a response's frame that has begun, and what ended
-- the client
pub record ClientState : Type 0 where
  pub writer : WriterState
  pub reader : ReaderState
  pub requests : ℕ
  pub responses : ℕ
  pub frame : List ℕ
  pub ended : Option Ending

-- a client to begin with
abbrev pub fresh_client : EndpointState → EndpointState → ClientState
fresh_client out inp = record {
  writer = record (fresh_writer out 4160) { n = 4 };
  reader = fresh_reader inp 512;
  requests = 0;
  responses = 0;
  frame = [];
  ended = None;
}

-- how many transfers a request may need, whose frame has so many bytes
abbrev pub request_need : ℕ → ℕ → ℕ
request_need maximum len = if is_whole maximum len then 2 else 1

-- what is true of every client: a byte more than a frame has fits; the numbers of transfers and the
-- timeouts are never changed; a transfer of the writer holds a frame; at most 16 responses are to
-- come; and while the client goes on no bytes stand in the writer
pub record IsClient (writer : WriterState) (reader : ReaderState) (requests responses room filled : ℕ) (ended : Option Ending) : Type 0 where
  pub room_is : room ≡ 4101
  pub within : filled ≤ 4101
  pub out_n : writer.n ≡ 4
  pub out_timeout : writer.timeout ≡ 2 ^ 64 - 1
  pub in_n : reader.n ≡ 1
  pub in_timeout : reader.timeout ≡ 2 ^ 64 - 1
  pub holds : 4160 ≤ writer.size
  pub answered : responses ≤ requests
  pub few : requests ≤ responses + 16
  pub nothing : ended ≡ None → unwrap_or writer.buffer [] ≡ []

-- its two endpoints stand in a bus, each by a key of its own
pub record StandBoth (b : BusState) (c : ClientState) : Type 0 where
  pub out : Stands b c.writer.endpoint
  pub inp : Stands b c.reader.endpoint
  pub apart : c.writer.endpoint.key ≢ c.reader.endpoint.key
