-- What std's traits tell of the failures of a reader and of a writer.
use Rattle.std.specs.Prelude.{ℕ, ◌≡◌, Bool, List, [], ◌∷◌, Result, Ok, Err, None}
use Rattle.std.specs.IoError.{error_kind, raw_os_error}
use Rattle.std.specs.declared.io.Error.{Error}
use Rattle.std.specs.declared.io.ErrorKind.{ErrorKind}
use Rattle.std.specs.declared.io.ErrorKind.TheVariants as std
use Rattle.usb_desc.specs.declared.error.Fail.{Fail}
use Rattle.usb_desc.specs.declared.error.Fail.TheVariants.{Cause, Memory}
use Rattle.usb_xfer.specs.declared.error.TransferError.{TransferError}
use Rattle.usb_xfer.specs.declared.error.TransferError.TheVariants as transfer
use Rattle.usb_device_endpoint.specs.BusState.{BusState}
use Rattle.usb_io.specs.declared.fault.ReadFault.{ReadFault}
use Rattle.usb_io.specs.declared.fault.ReadFault.TheVariants.{Transfer, TimedOut, UnexpectedEof}
use Rattle.usb_io.specs.declared.fault.WriteFault.{WriteFault}
use Rattle.usb_io.specs.declared.fault.WriteFault.TheVariants as write
use Rattle.usb_io.specs.Answers.{FillFails}
use Rattle.usb_device_endpoint.specs.BusCalls.{BusCalls}
use Rattle.usb_io.specs.Reads.{Reading}
use Rattle.usb_io.specs.WriteAnswers.{WriteFails, FlushFails}
use Rattle.usb_io.specs.Carried.{TellsOn, flushed_calls}
use Rattle.usb_io.specs.Writers.{WriterState, Writing}
use Rattle.usb_io.specs.Writes.{Flush}

-- which of std's kinds a failure of a read is
abbrev pub std_kind_of_transfer : TransferError → ErrorKind
std_kind_of_transfer transfer.Cancelled = std.Interrupted
std_kind_of_transfer transfer.Stall = std.ConnectionReset
std_kind_of_transfer transfer.Disconnected = std.ConnectionAborted
std_kind_of_transfer transfer.Fault = std.Other
std_kind_of_transfer transfer.InvalidArgument = std.InvalidInput
std_kind_of_transfer (transfer.Unknown errno) = std.Other

abbrev pub std_kind : Fail ReadFault → ErrorKind
std_kind (Cause (Transfer e)) = std_kind_of_transfer e
std_kind (Cause TimedOut) = std.TimedOut
std_kind (Cause UnexpectedEof) = std.UnexpectedEof
std_kind Memory = std.OutOfMemory

-- an error of std's that a read answers: of the kind of its failure
abbrev pub IsStdError : {S : Type 0} → BusCalls S → Bool → ℕ → Reading S → Reading S → Error → Type 0
IsStdError k until_short timeout old new e =
    (f : Fail ReadFault) × (error_kind e ≡ std_kind f) × (raw_os_error e ≡ None) × FillFails k until_short timeout old new f

-- which of them a failure of a write is
abbrev pub std_write_kind : Fail WriteFault → ErrorKind
std_write_kind (Cause (write.Transfer e)) = std_kind_of_transfer e
std_write_kind (Cause write.TimedOut) = std.TimedOut
std_write_kind Memory = std.OutOfMemory

-- errors of std's that a write and a flush answer
abbrev pub IsStdWriteError : {S : Type 0} → BusCalls S → ℕ → List ℕ → Writing S → Writing S → Error → Type 0
IsStdWriteError k timeout src old new e = (f : Fail WriteFault) × (error_kind e ≡ std_write_kind f) × (raw_os_error e ≡ None) × WriteFails k timeout src old new f

abbrev pub IsStdFlushError : {S : Type 0} → BusCalls S → ℕ → Writing S → Writing S → Error → Type 0
IsStdFlushError k timeout old new e = (f : Fail WriteFault) × (error_kind e ≡ std_write_kind f) × (raw_os_error e ≡ None) × FlushFails k timeout old new f

-- what a flush that answered so counts as
abbrev pub TellsStdFlush : BusState → BusState → WriterState → WriterState → Result (Unit {0}) Error → Type 0
TellsStdFlush old new w w' (Ok u) = TellsOn old new w w' (Flush ∷ [])
TellsStdFlush old new w w' (Err e) = (f : Fail WriteFault) × (error_kind e ≡ std_write_kind f) × (raw_os_error e ≡ None) × TellsOn old new w w' (flushed_calls (Err f))
