-- Which fault of input or output each error is: its kind, and what it prints.
use Rattle.usb_xfer.specs.declared.error.TransferError.{TransferError}
use Rattle.usb_xfer.specs.TransferTexts.{transfer_error_text}
use Rattle.usb_error.specs.declared.active.ActiveConfigurationError.{ActiveConfigurationError}
use Rattle.usb_error.specs.declared.descriptor_error.GetDescriptorError.{GetDescriptorError}
use Rattle.usb_error.specs.declared.io_kind.IoKind.TheVariants.{Other}
use Rattle.usb_error.specs.ErrorState.{ErrorState}
use Rattle.usb_error.specs.Texts.{error_text}
use Rattle.usb_error.specs.Active.{active_text}
use Rattle.usb_error.specs.DescriptorErrors.{descriptor_error_text}
use Rattle.usb_error.specs.IoKinds.{transfer_kind, call_kind, descriptor_kind}
use Rattle.usb_error.specs.FaultState.{FaultState}

abbrev pub transfer_fault : TransferError → FaultState
transfer_fault e = record { kind = transfer_kind e; text = transfer_error_text e }

abbrev pub error_fault : ErrorState → FaultState
error_fault e = record { kind = call_kind e.kind; text = error_text e }

abbrev pub active_fault : ActiveConfigurationError → FaultState
active_fault e = record { kind = Other; text = active_text e }

abbrev pub descriptor_fault : GetDescriptorError → FaultState
descriptor_fault e = record { kind = descriptor_kind e; text = descriptor_error_text e }
