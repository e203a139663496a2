-- The faults of reads and writes as faults of input and output: their kinds, and what they print.
use Rattle.std.specs.Prelude.{List, ℕ, codes}
use Rattle.usb_error.specs.declared.io_kind.IoKind.{IoKind}
use Rattle.usb_error.specs.declared.io_kind.IoKind.TheVariants as io
use Rattle.usb_error.specs.FaultState.{FaultState}
use Rattle.usb_error.specs.Faults.{transfer_fault}
use Rattle.usb_io.specs.declared.fault.ReadFault.{ReadFault}
use Rattle.usb_io.specs.declared.fault.ReadFault.TheVariants as read
use Rattle.usb_io.specs.declared.fault.WriteFault.{WriteFault}
use Rattle.usb_io.specs.declared.fault.WriteFault.TheVariants as write

abbrev pub fault_of : IoKind → List ℕ → FaultState
fault_of kind text = record { kind = kind; text = text }

abbrev pub read_fault : ReadFault → FaultState
read_fault (read.Transfer e) = transfer_fault e
read_fault read.TimedOut = fault_of io.TimedOut (codes "timeout waiting for read")
read_fault read.UnexpectedEof = fault_of io.UnexpectedEof (codes "ended without short packet")

abbrev pub write_fault : WriteFault → FaultState
write_fault (write.Transfer e) = transfer_fault e
write_fault write.TimedOut = fault_of io.TimedOut (codes "write timeout")

-- what is printed where no short packet is next
abbrev pub expected_text : List ℕ
expected_text = codes "expected short packet"
