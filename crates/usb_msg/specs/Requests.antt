-- What a request came to, and what it left of the bus and the client.
use Rattle.std.specs.Prelude.{ℕ, ◌+◌, ◌≡◌, ◌⊎◌, List, Option, Some, None, Result, Ok, Err}
use Rattle.usb_device_endpoint.specs.BusCalls.{BusCalls}
use Rattle.usb_io.specs.Answered.{Answered, answered}
use Rattle.usb_io.specs.Writers.{Writing, writing}
use Rattle.usb_io.specs.WriteAnswers.{write_came, WriteShort, submit_end_came, SubmitEndShort}
use Rattle.usb_io.specs.StreamFaults.{write_fault}
use Rattle.usb_io.specs.declared.fault.WriteFault.{WriteFault}
use Rattle.usb_msg.specs.Frames.{framed}
use Rattle.usb_msg.specs.Clients.{ClientState}
use Rattle.usb_msg.specs.Errors.{error_of, ended_by_write, MayLack}
use Rattle.usb_msg.specs.declared.error.Ending.{Ending}
use Rattle.usb_msg.specs.declared.error.Ending.TheVariants as ending
use Rattle.usb_msg.specs.declared.error.MsgError.{MsgError}
use Rattle.usb_msg.specs.declared.error.MsgError.TheVariants as error

-- a client on its bus
pub record Messaging (S : Type 0) : Type 0 where
  pub bus : S
  pub client : ClientState

abbrev pub messaging : {S : Type 0} → S → ClientState → Messaging S
messaging bus client = record { bus = bus; client = client }

-- an answer of a client (A) or its error, and what is left
abbrev pub Message : Type 0 → Type 0 → Type 0
Message A S = Answered A MsgError (Messaging S)

-- the writer of a client on its bus, and the client with another
abbrev pub writing_of : {S : Type 0} → Messaging S → Writing S
writing_of w = writing w.bus w.client.writer

abbrev pub with_writing : {S : Type 0} → Writing S → ClientState → Messaging S
with_writing w c = messaging w.bus (record c { writer = w.writer })

-- a client that this has ended, or nothing has
abbrev pub ended_by : {S : Type 0} → Option Ending → Messaging S → Messaging S
ended_by why w = record w { client = record w.client { ended = why } }

-- one request more, which is answered by its tag
abbrev pub counted : {S : Type 0} → Messaging S → Message ℕ S
counted w = answered (Ok w.client.requests) (record w { client = record w.client { requests = w.client.requests + 1 } })

-- an accepted frame is ended as a message; else the fault is told
abbrev pub after_write : {S : Type 0} → BusCalls S → ClientState → Result ℕ WriteFault → Writing S → Message ℕ S
after_write k c (Ok n) w = counted (with_writing (submit_end_came k w) c)
after_write k c (Err f) w = answered (Err (error.Io (write_fault f))) (ended_by (ended_by_write f) (with_writing w c))

abbrev pub request_of : {S : Type 0} → BusCalls S → ClientState → Answered ℕ WriteFault (Writing S) → Message ℕ S
request_of k c a = after_write k c a.answer a.left

-- one write of the frame of a body, under the tag that is next
abbrev pub frame_written : {S : Type 0} → BusCalls S → List ℕ → Messaging S → Answered ℕ WriteFault (Writing S)
frame_written k body w = write_came k w.client.writer.timeout (framed w.client.requests body) (writing_of w)

abbrev pub requested_by : {S : Type 0} → BusCalls S → List ℕ → Option Ending → Messaging S → Message ℕ S
requested_by k body None w = request_of k w.client (frame_written k body w)
requested_by k body (Some why) w = answered (Err (error_of why)) w

-- a request with this body. A client that has ended tells why, and nothing changes
abbrev pub requested : {S : Type 0} → BusCalls S → List ℕ → Messaging S → Message ℕ S
requested k body w = requested_by k body w.client.ended w

-- a call without memory changed nothing, where it may find none
abbrev pub Unchanged : {S : Type 0} → Messaging S → Messaging S → Type 0
Unchanged old new = MayLack old.client.ended × (new ≡ old)

-- the write found no memory: it accepted nothing, and the client goes on
pub record FrameShort {S : Type 0} (k : BusCalls S) (body : List ℕ) (old new : Messaging S) : Type 0 where
  pub goes : old.client.ended ≡ None
  pub mid : Writing S
  pub short : WriteShort k old.client.writer.timeout (framed old.client.requests body) (writing_of old) mid
  pub left : new ≡ with_writing mid old.client

-- the end found none: the frame was accepted, and the client has ended
pub record FrameEndShort {S : Type 0} (k : BusCalls S) (body : List ℕ) (old new : Messaging S) : Type 0 where
  pub goes : old.client.ended ≡ None
  pub count : ℕ
  pub mid : Writing S
  pub written : frame_written k body old ≡ answered (Ok count) mid
  pub end : Writing S
  pub short : SubmitEndShort k mid end
  pub left : new ≡ ended_by (Some ending.Memory) (with_writing end old.client)

abbrev pub RequestShort : {S : Type 0} → BusCalls S → List ℕ → Messaging S → Messaging S → Type 0
RequestShort k body old new = Unchanged old new ⊎ (FrameShort k body old new ⊎ FrameEndShort k body old new)

-- why a request failed: as it says, or memory was lacking
abbrev pub RequestFails : {S : Type 0} → BusCalls S → List ℕ → Messaging S → Messaging S → MsgError → Type 0
RequestFails k body old new e =
    (requested k body old ≡ answered (Err e) new) ⊎ ((e ≡ error.Memory) × RequestShort k body old new)
