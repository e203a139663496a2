-- What a lasting error, and a transfer that was cancelled, mean for a reader.
use Rattle.std.specs.Prelude.{ℕ, ◌≡◌, Bool, false, List, [], Some, Err}
use Rattle.usb_xfer.specs.declared.transfer.Completion.{Completion}
use Rattle.usb_xfer.specs.declared.error.TransferError.{TransferError}
use Rattle.usb_xfer.specs.declared.error.TransferError.TheVariants.{Cancelled}
use Rattle.usb_device_endpoint.specs.BusCalls.{BusCalls}
use Rattle.usb_io.specs.Readers.{ReaderState, with_taken}
use Rattle.usb_io.specs.Reads.{Reading, filled_to, TurnedShort}
use Rattle.usb_io.specs.Answered.{answered}
use Rattle.usb_io.specs.Answers.{fill_came, read_came}
use Rattle.usb_io.specs.declared.fault.ReadFault.TheVariants.{Transfer}

-- no byte is unread, and this error lasts
pub record HasFailed (r : ReaderState) (e : TransferError) : Type 0 where
  pub unread : r.unread ≡ []
  pub error : r.error ≡ Some e

-- a read then answers the error, and leaves the bus and the reader as they were. A poll is one with no time, so it is not pending
abbrev pub ReadTellsError : {S : Type 0} → BusCalls S → Type 0
ReadTellsError {S = S} k =
    (until_short : Bool) (timeout most : ℕ) (w : Reading S) (e : TransferError) → HasFailed w.reader e →
    read_came k until_short timeout most w ≡ answered (Err (Transfer e)) w

-- so does a call that lends the bytes
abbrev pub FillTellsError : {S : Type 0} → BusCalls S → Type 0
FillTellsError {S = S} k =
    (until_short : Bool) (timeout : ℕ) (w : Reading S) (e : TransferError) → HasFailed w.reader e →
    fill_came k until_short timeout w ≡ answered (Err (Transfer e)) w

-- neither lacks memory
abbrev pub NeedsNoMemory : {S : Type 0} → BusCalls S → Type 0
NeedsNoMemory {S = S} k =
    (until_short : Bool) (timeout : ℕ) (old new : Reading S) (e : TransferError) → HasFailed old.reader e →
    TurnedShort k until_short timeout old new → ⊥

-- submissions up to a goal leave it so
abbrev pub SubmissionsKeepError : {S : Type 0} → BusCalls S → Type 0
SubmissionsKeepError {S = S} k =
    (goal : ℕ) (w : Reading S) (e : TransferError) → HasFailed w.reader e →
    HasFailed (filled_to k goal w).reader e

-- the bytes of a transfer that was cancelled are to be read, once it is taken: no end stands, and no error lasts but one that did
-- before
abbrev pub CancelledLeavesBytes : Type 0
CancelledLeavesBytes =
    (c : Completion) (others : List ℕ) (r : ReaderState) → c.status ≡ Err Cancelled →
    with_taken c others r
    ≡ record r { endpoint = record r.endpoint { pending = others }; unread = c.buffer.bytes; ended = false }
