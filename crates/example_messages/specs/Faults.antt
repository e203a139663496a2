-- Which fault is that of a writer or a reader.
use Rattle.usb_desc.specs.declared.error.Fail.{Fail}
use Rattle.usb_desc.specs.declared.error.Fail.TheVariants.{Cause, Memory}
use Rattle.usb_xfer.specs.declared.error.TransferError.{TransferError}
use Rattle.usb_xfer.specs.declared.error.TransferError.TheVariants.{Stall, Disconnected}
use Rattle.usb_io.specs.declared.fault.ReadFault.{ReadFault}
use Rattle.usb_io.specs.declared.fault.ReadFault.TheVariants as read
use Rattle.usb_io.specs.declared.fault.WriteFault.{WriteFault}
use Rattle.usb_io.specs.declared.fault.WriteFault.TheVariants as write
use Rattle.example_messages.specs.declared.fault.Fault.{Fault}
use Rattle.example_messages.specs.declared.fault.Fault.TheVariants.{Stalled, Unplugged, TimedOut, Failed, Stuck}

-- that of a transfer which failed
abbrev pub transfer_fault : TransferError → Fault
transfer_fault Stall = Stalled
transfer_fault Disconnected = Unplugged
transfer_fault e = Failed e

abbrev pub write_fault : WriteFault → Fault
write_fault (write.Transfer e) = transfer_fault e
write_fault write.TimedOut = TimedOut

abbrev pub read_fault : ReadFault → Fault
read_fault (read.Transfer e) = transfer_fault e
read_fault read.TimedOut = TimedOut
read_fault read.UnexpectedEof = Stuck

-- the failure with its cause told otherwise
abbrev pub fail_with : {E F : Type 0} → (E → F) → Fail E → Fail F
fail_with told (Cause e) = Cause (told e)
fail_with told Memory = Memory
