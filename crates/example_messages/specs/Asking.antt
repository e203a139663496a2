-- What is sent, what is answered, and why nothing is. A journal tells what happened at the kernel.
-- What a reader consumed is a prefix of what came to its endpoint, with an end exactly where a
-- short packet came, and what a writer was told to write is what its transfers carry (the laws of
-- usb_io, crates/usb_io/src/laws.rt).
use Rattle.std.specs.Prelude.{ℕ, ◌≡◌, ◌<◌, ◌⊎◌, true, List, [], ◌∷◌, ◌++◌, length, map, Ok, Err}
use Rattle.usb_desc.specs.declared.error.Fail.{Fail}
use Rattle.usb_desc.specs.declared.error.Fail.TheVariants.{Cause, Memory}
use Rattle.usb_kernel.specs.Legal.{IsLawful}
use Rattle.usb_device_endpoint.specs.BusState.{BusState}
use Rattle.usb_device_host.specs.HostState.{HostState}
use Rattle.usb_device_host.specs.HostBus.{bus_of}
use Rattle.usb_device_host.specs.HostCalls.{host_calls}
use Rattle.usb_io.specs.Streams.{Byte, End}
use Rattle.usb_io.specs.Following.{History, Follows, FollowsRead}
use Rattle.usb_io.specs.Readers.{ReaderState}
use Rattle.usb_io.specs.Reads.{Reading, reading}
use Rattle.usb_io.specs.Writers.{WriterState, Writing, writing}
use Rattle.usb_io.specs.Writes.{Finish, marks_of, after_writes}
use Rattle.usb_io.specs.Carried.{TellsOn}
use Rattle.usb_io.specs.Answered.{answered}
use Rattle.usb_io.specs.Answers.{read_came}
use Rattle.usb_io.specs.WriteAnswers.{write_came, flush_end_came}
use Rattle.usb_io.specs.declared.fault.ReadFault.{ReadFault}
use Rattle.usb_io.specs.declared.fault.WriteFault.{WriteFault}
use Rattle.example_messages.specs.declared.fault.Fault.{Fault}
use Rattle.example_messages.specs.declared.fault.Fault.TheVariants.{TooLong, Unsettled, Stuck}
use Rattle.example_messages.specs.declared.ask.TheConstants.{LONGEST_ANSWER}
use Rattle.example_messages.specs.Endpoints.{MessagesState, IsSettled}
use Rattle.example_messages.specs.Faults.{write_fault, read_fault}

-- a writer was told to write these bytes, in writes that are listed from the latest on
pub record WritesBytes (old new : BusState) (w w' : WriterState) (bytes : List ℕ) : Type 0 where
  pub writes : List (List ℕ)
  pub are : marks_of (after_writes writes []) ≡ map Byte bytes
  pub tells : TellsOn old new w w' (after_writes writes [])

-- and then to end their message, which went well: each transfer that was pending then was taken,
-- and none failed (`flush_end_came`)
pub record WritesMessage (old new : BusState) (w w' : WriterState) (bytes : List ℕ) : Type 0 where
  pub writes : List (List ℕ)
  pub are : marks_of (after_writes writes []) ≡ map Byte bytes
  pub tells : TellsOn old new w w' (Finish ∷ after_writes writes [])
  pub before : Writing HostState
  pub behind : HostState
  pub went_well : flush_end_came host_calls before.writer.timeout before
      ≡ answered (Ok tt) (writing behind w')

-- a reader that follows its stream does so still, and consumed these bytes of it and the end behind
-- them. (The journal of a host is lawful: Kernel::journal)
abbrev pub ReadsMessage : BusState → BusState → ReaderState → ReaderState → List ℕ → Type 0
ReadsMessage old new r r' bytes =
    IsLawful new.past → (h : History) → Follows old.past r h →
    (h' : History) × (h'.consumed ≡ (h.consumed ++ map Byte bytes) ++ End ∷ [])
    × Follows new.past r' h'

-- the last call was a write or an end of a message, which failed by this
pub record WriteFailed (new : Writing HostState) (fault : Fault) : Type 0 where
  pub before : Writing HostState
  pub bytes : List ℕ
  pub answer : WriteFault
  pub is :
      (write_came host_calls before.writer.timeout bytes before ≡ answered (Err answer) new)
      ⊎ (flush_end_came host_calls before.writer.timeout before ≡ answered (Err answer) new)
  pub fault_is : fault ≡ write_fault answer

-- or a read, which failed by this
pub record ReadFailed (new : Reading HostState) (fault : Fault) : Type 0 where
  pub before : Reading HostState
  pub most : ℕ
  pub answer : ReadFault
  pub is : read_came host_calls true before.reader.timeout most before ≡ answered (Err answer) new
  pub fault_is : fault ≡ read_fault answer

-- more came of an answer than is taken
pub record CameTooLong (old new : BusState) (r r' : ReaderState) : Type 0 where
  pub bytes : List ℕ
  pub long : LONGEST_ANSWER < length bytes
  pub read : FollowsRead old new r r' bytes

-- why a request was not sent: by the last call of the writer. Want of memory comes whenever it does
abbrev pub SendFails : Writing HostState → Fail Fault → Type 0
SendFails new Memory = Unit {0}
SendFails new (Cause Stuck) = Unit {0}
SendFails new (Cause fault) = WriteFailed new fault

-- why no answer was received: more came than is taken, or by the last read
abbrev pub ReceiveFails : BusState → ReaderState → Reading HostState → Fail Fault → Type 0
ReceiveFails old r new Memory = Unit {0}
ReceiveFails old r new (Cause Stuck) = Unit {0}
ReceiveFails old r new (Cause TooLong) = CameTooLong old (bus_of new.bus) r new.reader
ReceiveFails old r new (Cause fault) = ReadFailed new fault

-- why a request was not answered. Where something of an earlier one was left, nothing was done
abbrev pub Fails : HostState → HostState → MessagesState → MessagesState → Fail Fault → Type 0
Fails old new m m' Memory = Unit {0}
Fails old new m m' (Cause Stuck) = Unit {0}
Fails old new m m' (Cause Unsettled) = (IsSettled m → ⊥) × (new ≡ old) × (m' ≡ m)
Fails old new m m' (Cause TooLong) = CameTooLong (bus_of old) (bus_of new) m.reader m'.reader
Fails old new m m' (Cause fault) =
    WriteFailed (writing new m'.writer) fault ⊎ ReadFailed (reading new m'.reader) fault
