-- Of which kind a fault of input or output is, by the error that it comes from.
use Rattle.usb_xfer.specs.declared.error.TransferError.{TransferError}
use Rattle.usb_xfer.specs.declared.error.TransferError.TheVariants as transfer
use Rattle.usb_error.specs.declared.kind.ErrorKind.{ErrorKind}
use Rattle.usb_error.specs.declared.kind.ErrorKind.TheVariants as error
use Rattle.usb_error.specs.declared.descriptor_error.GetDescriptorError.{GetDescriptorError}
use Rattle.usb_error.specs.declared.descriptor_error.GetDescriptorError.TheVariants.{Transfer, InvalidDescriptor}
use Rattle.usb_error.specs.declared.io_kind.IoKind.{IoKind}
use Rattle.usb_error.specs.declared.io_kind.IoKind.TheVariants as io

-- a transfer failed
abbrev pub transfer_kind : TransferError → IoKind
transfer_kind transfer.Cancelled = io.Interrupted
transfer_kind transfer.Stall = io.ConnectionReset
transfer_kind transfer.Disconnected = io.ConnectionAborted
transfer_kind transfer.Fault = io.Other
transfer_kind transfer.InvalidArgument = io.InvalidInput
transfer_kind (transfer.Unknown errno) = io.Other

-- a call failed with an error of this kind
abbrev pub call_kind : ErrorKind → IoKind
call_kind error.Disconnected = io.NotConnected
call_kind error.Busy = io.Other
call_kind error.PermissionDenied = io.PermissionDenied
call_kind error.NotFound = io.NotFound
call_kind error.Unsupported = io.Unsupported
call_kind error.Other = io.Other

-- a descriptor was not read
abbrev pub descriptor_kind : GetDescriptorError → IoKind
descriptor_kind (Transfer e) = transfer_kind e
descriptor_kind InvalidDescriptor = io.InvalidData
