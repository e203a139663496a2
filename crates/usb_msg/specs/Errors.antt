-- Why a call on a client failed.
use Rattle.std.specs.Prelude.{Option, Some, None, List, ℕ, ◌++◌, codes, decimal}
use Rattle.usb_error.specs.Faults.{transfer_fault}
use Rattle.usb_io.specs.declared.fault.ReadFault.{ReadFault}
use Rattle.usb_io.specs.declared.fault.ReadFault.TheVariants as read
use Rattle.usb_io.specs.declared.fault.WriteFault.{WriteFault}
use Rattle.usb_io.specs.declared.fault.WriteFault.TheVariants as write
use Rattle.usb_msg.specs.declared.error.Ending.{Ending}
use Rattle.usb_msg.specs.declared.error.Ending.TheVariants as ending
use Rattle.usb_msg.specs.declared.error.MsgError.{MsgError}
use Rattle.usb_msg.specs.declared.error.MsgError.TheVariants as error

-- the error that a client answers once this has ended it
abbrev pub error_of : Ending → MsgError
error_of (ending.Short len) = error.Short len
error_of ending.TooLong = error.TooLong
error_of (ending.WrongTag expected got) = error.WrongTag expected got
error_of (ending.Transfer e) = error.Io (transfer_fault e)
error_of ending.Memory = error.Memory

-- an answer of a client may find no memory: of one that goes on, and of one that has ended by an
-- error with a text
abbrev pub MayLack : Option Ending → Type 0
MayLack None = Unit {0}
MayLack (Some (ending.Transfer e)) = Unit {0}
MayLack (Some _) = ⊥

-- a failed transfer ends a client; that a transfer did not end in time doesn't
abbrev pub ended_by_read : ReadFault → Option Ending
ended_by_read (read.Transfer e) = Some (ending.Transfer e)
ended_by_read read.TimedOut = None
ended_by_read read.UnexpectedEof = None

abbrev pub ended_by_write : WriteFault → Option Ending
ended_by_write (write.Transfer e) = Some (ending.Transfer e)
ended_by_write write.TimedOut = None

-- what an error prints
abbrev pub message_error_text : MsgError → List ℕ
message_error_text (error.Short len) = codes "message of " ++ decimal len ++ codes " bytes has no tag"
message_error_text error.TooLong = codes "message is too long"
message_error_text (error.WrongTag expected got) = codes "message has tag " ++ decimal got ++ codes ", where " ++ decimal expected ++ codes " is due"
message_error_text (error.Io fault) = fault.text
message_error_text error.Memory = codes "out of memory"
