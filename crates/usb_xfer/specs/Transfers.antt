-- What a transfer holds on its way.
use Rattle.std.specs.Prelude.{ℕ, List, [], length, Option, Some, None, IsSome, Result, Ok, Err}
use Rattle.usb_desc.specs.declared.types.TransferType.{TransferType}
use Rattle.usb_desc.specs.declared.types.TransferType.TheVariants.{Control}
use Rattle.usb_desc.specs.declared.control.ControlIn.{ControlIn}
use Rattle.usb_desc.specs.declared.control.ControlOut.{ControlOut}
use Rattle.usb_desc.specs.Setup.{setup_packet_in, setup_packet_out}
use Rattle.usb_xfer.specs.BufferState.{BufferState}
use Rattle.usb_xfer.specs.declared.error.TransferError.{TransferError}
use Rattle.usb_xfer.specs.declared.transfer.Completion.{Completion}
use Rattle.usb_xfer.specs.declared.transfer.Held.{Held}
use Rattle.usb_xfer.specs.declared.transfer.Held.TheVariants.{Nothing, Filled, Request, Complete}
use Rattle.usb_xfer.specs.declared.transfer.TransferData.{TransferData}

-- a transfer of an endpoint that holds nothing
abbrev pub empty_transfer : ℕ → TransferType → TransferData
empty_transfer endpoint kind = record { endpoint = endpoint; kind = kind; held = Nothing }

-- a transfer of an endpoint with a buffer to be submitted
abbrev pub filled_transfer : ℕ → TransferType → BufferState → TransferData
filled_transfer endpoint kind b = record { endpoint = endpoint; kind = kind; held = Filled b }

-- a control transfer on endpoint 0 whose data come from the device: the buffer is empty, and has room for what is asked for
abbrev pub request_in : ControlIn → TransferData
request_in setup =
    record {
      endpoint = 128;
      kind = Control;
      held = Request (setup_packet_in setup) (record { bytes = []; requested = setup.length; room = setup.length });
    }

-- and one that sends data
abbrev pub request_out : ControlOut → TransferData
request_out setup =
    record {
      endpoint = 0;
      kind = Control;
      held = Request (setup_packet_out setup) (record {
        bytes = setup.bytes.now;
        requested = length setup.bytes.now;
        room = length setup.bytes.now;
      });
    }

-- the buffer that is to be submitted with no setup packet
abbrev pub buffer_held : Held → Option BufferState
buffer_held Nothing = None
buffer_held (Filled b) = Some b
buffer_held (Request setup b) = None
buffer_held (Complete c) = None

-- the setup packet that is to be submitted
abbrev pub setup_held : Held → Option (List ℕ)
setup_held Nothing = None
setup_held (Filled b) = None
setup_held (Request setup b) = Some setup
setup_held (Complete c) = None

-- what became of the buffer that was submitted
abbrev pub completion_held : Held → Option Completion
completion_held Nothing = None
completion_held (Filled b) = None
completion_held (Request setup b) = None
completion_held (Complete c) = Some c

abbrev pub IsFilled : TransferData → Type 0
IsFilled t = IsSome (buffer_held t.held)

-- a control transfer that is to be submitted
abbrev pub IsRequest : TransferData → Type 0
IsRequest t = IsSome (setup_held t.held)

abbrev pub IsComplete : TransferData → Type 0
IsComplete t = IsSome (completion_held t.held)

-- the buffer of a completion, or its error alone
abbrev pub outcome_by : Result (Unit {0}) TransferError → BufferState → Result BufferState TransferError
outcome_by (Ok done) b = Ok b
outcome_by (Err error) b = Err error

abbrev pub outcome_of : Completion → Result BufferState TransferError
outcome_of c = outcome_by c.status c.buffer

-- the status of a transfer: that of its completion, and before it nothing has failed
abbrev pub status_held : Held → Result (Unit {0}) TransferError
status_held Nothing = Ok tt
status_held (Filled b) = Ok tt
status_held (Request setup b) = Ok tt
status_held (Complete c) = c.status

abbrev pub status_in : TransferData → Result (Unit {0}) TransferError
status_in t = status_held t.held

-- the buffer that is held, complete or not, and an empty one where none is
abbrev pub data_held : Held → BufferState
data_held Nothing = record { bytes = []; requested = 0; room = 0 }
data_held (Filled b) = b
data_held (Request setup b) = b
data_held (Complete c) = c.buffer

abbrev pub bytes_in : TransferData → List ℕ
bytes_in t = (data_held t.held).bytes
