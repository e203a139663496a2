-- What a whole session does.
use Rattle.std.specs.Prelude.{ℕ, ◌≡◌, ◌≤◌, ◌⊎◌, List, Result, Ok, Err, Some}
use Rattle.std.specs.declared.option.Option.{Option}
use Rattle.std.specs.Io.KnownBytes.{Appends, Keeps}
use Rattle.usb_script_lines.specs.declared.item.Item.{Item}
use Rattle.usb_script.specs.declared.error.SessionError.{SessionError}
use Rattle.usb_script.specs.declared.error.SessionError.TheVariants.{Malformed, TooLong, ReadFault, WriteFault, Memory}
use Rattle.usb_script.specs.Parse.{script_of}
use Rattle.usb_session_run.specs.Causes.{Rose, ReadWhole, WrotePrefix, TookTooMany}
use Rattle.usb_device_host.specs.Finishes.{HasEnds, HasCompletions, KeepsNothing}
use Rattle.usb_session.specs.Output.{output, final_host}
use Rattle.usb_session.specs.Sums.{sum_of}
use Rattle.usb_session.specs.Served.{IsCounted, EndpointsAreServed}
use Rattle.usb_session.specs.Printed.{CompletionsArePrinted}
use Rattle.usb_session.specs.ControlsServed.{ControlsAreServed}
use Rattle.usb_session.specs.FinalFates.{HasFinalFates}
use Rattle.usb_session.specs.Places.{PollsAnswer}
use Rattle.usb_session.specs.Framed.{FramedReadersFollow}
use Rattle.usb_session.specs.Handed.{BytesAreHandedOver}
use Rattle.usb_session.specs.WrittenScripts.{WritersAreTold}
use Rattle.usb_session.specs.ClientsServed.{ClientsAreServed}
use Rattle.usb_session_run.specs.Exchanges.{MessagesAlwaysArrive, MessagesKeepArriving}
use Rattle.usb_session.specs.declared.summary.Summary.{Summary}

-- what a source and a sink tell of themselves: the bytes that are left, and those that were written, where they are told, and
-- the counts of faults
pub record Streams : Type 0 where
  pub left : Option (List ℕ)
  pub read_faults : ℕ
  pub written : Option (List ℕ)
  pub write_faults : ℕ

-- by the functions that give a source's bytes and faults, and a sink's
abbrev pub streams : {S K : Type 0} → (S → Option (List ℕ)) → (S → ℕ) → (K → Option (List ℕ)) → (K → ℕ) → S → K → Streams
streams left faults written counted source sink =
    record { left = left source; read_faults = faults source; written = written sink; write_faults = counted sink }

-- the source was read to its end, and this is what its bytes parse to
pub record ReadAs (old new : Streams) (items : Result (List Item) SessionError) : Type 0 where
  pub bytes : List ℕ
  pub read : ReadWhole old.left new.left bytes
  pub parsed : script_of bytes ≡ items

-- a valid script was read, and its whole output was written; at its end the host has as many
-- tickets as the journal, each with its end and its completion, and keeps no open device, no claimed
-- interface and no endpoint; each endpoint was served in the order of its submissions, each line
-- that prints a completion took the ticket of which it is, each control transfer is answered with
-- what came of it or given up when its future is closed, there is one final fate line for each
-- ticket; while the session is not crowded, a poll answered with the completion that the journal has
-- of the oldest pending transfer, and `pending` exactly where it has none; and at every moment what
-- a framed reader consumed is a prefix of its stream, what any reader handed over and has unread are
-- the bytes of the tickets that it took, the tickets of a writer's endpoint carry what the writer
-- wrote, where a device only echoes from the one to the other, the messages that the reader ended
-- are the first of those that the writer ended, also once the writer is gone, and the requests of a
-- client are sent in order as frames, of which each response that it answered is the device's answer
pub record IsAnswered (old new : Streams) (summary : Summary) : Type 0 where
  pub items : List Item
  pub script : ReadAs old new (Ok items)
  pub wrote : Appends old.written new.written (output items)
  pub summed : summary ≡ sum_of items
  pub ended : HasEnds (final_host items).tickets
  pub reaped : HasCompletions (final_host items).kernel.past
  pub keeps_nothing : KeepsNothing (final_host items)
  pub counted : IsCounted items
  pub served : EndpointsAreServed items
  pub printed : CompletionsArePrinted items
  pub controls : ControlsAreServed items
  pub fates : HasFinalFates items
  pub polled : PollsAnswer items
  pub framed : FramedReadersFollow items
  pub handed : BytesAreHandedOver items
  pub told : WritersAreTold items
  pub exchanged : MessagesAlwaysArrive items
  pub keeps_arriving : MessagesKeepArriving items
  pub clients : ClientsAreServed items

-- a valid script was read, and a prefix of its output was written
pub record IsCutOff (old new : Streams) : Type 0 where
  pub items : List Item
  pub script : ReadAs old new (Ok items)
  pub wrote : WrotePrefix old.written new.written (output items)

-- why a session fails, and what it wrote
abbrev pub HasReason : Streams → Streams → SessionError → Type 0
HasReason old new (Malformed line) = ReadAs old new (Err (Malformed line)) × Keeps old.written new.written
HasReason old new TooLong = TookTooMany 1048576 old.left new.left × Keeps old.written new.written
HasReason old new ReadFault = Rose old.read_faults new.read_faults × Keeps old.written new.written
HasReason old new WriteFault = Rose old.write_faults new.write_faults × IsCutOff old new
HasReason old new Memory = Keeps old.written new.written ⊎ IsCutOff old new

-- counts of faults never fall
abbrev pub FaultsNeverFall : Streams → Streams → Type 0
FaultsNeverFall old new = (old.read_faults ≤ new.read_faults) × (old.write_faults ≤ new.write_faults)

-- before the call a source told its bytes, which are a valid script, and no count of faults rose in the call
pub record IsSmooth (old new : Streams) : Type 0 where
  pub bytes : List ℕ
  pub items : List Item
  pub known : old.left ≡ Some bytes
  pub valid : script_of bytes ≡ Ok items
  pub reads : Rose old.read_faults new.read_faults → ⊥
  pub writes : Rose old.write_faults new.write_faults → ⊥

-- before the call a source told these bytes, and no count of faults rose in the call
pub record IsQuiet (old new : Streams) (bytes : List ℕ) : Type 0 where
  pub known : old.left ≡ Some bytes
  pub reads : Rose old.read_faults new.read_faults → ⊥
  pub writes : Rose old.write_faults new.write_faults → ⊥

-- where the source's bytes are these and nothing failed: the answer is Ok where they parse, and else the parse's error; or memory was lacking
abbrev pub IsExact : {X : Type 0} → List ℕ → Result X SessionError → Type 0
IsExact bytes (Ok x) = (items : List Item) × (script_of bytes ≡ Ok items)
IsExact bytes (Err e) = (e ≡ Memory) ⊎ (script_of bytes ≡ Err e)

-- before the call a source told its bytes, and in the call it gave one more than so many
pub record GaveTooMany (most : ℕ) (old new : Streams) : Type 0 where
  pub bytes : List ℕ
  pub known : old.left ≡ Some bytes
  pub taken : TookTooMany most old.left new.left

-- where the source's bytes are these and were read to the end: they parse, and the answer is Ok or writing failed; or the answer is
-- the parse's error; or memory was lacking
abbrev pub AnswersBytes : {X : Type 0} → List ℕ → Result X SessionError → Type 0
AnswersBytes bytes (Ok x) = (items : List Item) × (script_of bytes ≡ Ok items)
AnswersBytes bytes (Err WriteFault) = (items : List Item) × (script_of bytes ≡ Ok items)
AnswersBytes bytes (Err Memory) = Unit {0}
AnswersBytes bytes (Err e) = script_of bytes ≡ Err e
