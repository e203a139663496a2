-- The line of a stream's fault: the name of its kind, and what it prints.
use Rattle.std.specs.Prelude.{ℕ, List, [], ◌∷◌, codes}
use Rattle.usb_error.specs.declared.io_kind.IoKind.{IoKind}
use Rattle.usb_error.specs.declared.io_kind.IoKind.TheVariants.{Interrupted, ConnectionReset, ConnectionAborted, NotConnected, InvalidInput, InvalidData, PermissionDenied, NotFound, Unsupported, TimedOut, UnexpectedEof, Other}
use Rattle.usb_error.specs.FaultState.{FaultState}
use Rattle.usb_io.specs.declared.fault.ReadFault.{ReadFault}
use Rattle.usb_io.specs.declared.fault.WriteFault.{WriteFault}
use Rattle.usb_io.specs.StreamFaults.{read_fault, write_fault}
use Rattle.usb_session_text.specs.Words.{line_of}

-- the name of a kind
abbrev pub kind_name : IoKind → List ℕ
kind_name Interrupted = codes "Interrupted"
kind_name ConnectionReset = codes "ConnectionReset"
kind_name ConnectionAborted = codes "ConnectionAborted"
kind_name NotConnected = codes "NotConnected"
kind_name InvalidInput = codes "InvalidInput"
kind_name InvalidData = codes "InvalidData"
kind_name PermissionDenied = codes "PermissionDenied"
kind_name NotFound = codes "NotFound"
kind_name Unsupported = codes "Unsupported"
kind_name TimedOut = codes "TimedOut"
kind_name UnexpectedEof = codes "UnexpectedEof"
kind_name Other = codes "Other"

-- a fault of input or output
unfoldable pub io_line : FaultState → List ℕ
io_line fault = line_of (codes "io") (kind_name fault.kind ∷ fault.text ∷ [])

-- why a read failed
abbrev pub read_fault_line : ReadFault → List ℕ
read_fault_line fault = io_line (read_fault fault)

-- why a write or a flush failed
abbrev pub write_fault_line : WriteFault → List ℕ
write_fault_line fault = io_line (write_fault fault)
