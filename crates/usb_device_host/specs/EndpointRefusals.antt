-- Why an endpoint of a claimed interface is not opened.
use Rattle.std.specs.Prelude.{ℕ, ◌==◌, not, Bool, true, false, List, Result, Ok, Err, Option, Some, None, if◌then◌else◌}
use Rattle.usb_desc.specs.declared.types.Direction.{Direction}
use Rattle.usb_desc.specs.declared.types.Direction.TheVariants.{Out, In}
use Rattle.usb_desc.specs.declared.types.TransferType.{TransferType}
use Rattle.usb_desc.specs.declared.types.TransferType.TheVariants.{Control, Isochronous, Bulk, Interrupt}
use Rattle.usb_desc.specs.Fields.{direction_of_address, transfer_type, max_packet_size}
use Rattle.usb_error.specs.ErrorState.{ErrorState}
use Rattle.usb_error.specs.Errors.{no_endpoint_error, wrong_direction_error, wrong_type_error, no_packet_size_error, endpoint_in_use_error}

abbrev pub same_direction : Direction → Direction → Bool
same_direction Out Out = true
same_direction In In = true
same_direction Out In = false
same_direction In Out = false

abbrev pub is_type : TransferType → TransferType → Bool
is_type Control Control = true
is_type Isochronous Isochronous = true
is_type Bulk Bulk = true
is_type Interrupt Interrupt = true
is_type a b = false

-- the maximum packet size of the endpoint whose descriptor was found, or the first of these errors
abbrev pub endpoint_tried : Option (List ℕ) → ℕ → TransferType → Direction → Bool →
    Result ℕ ErrorState
endpoint_tried None address kind direction used = Err no_endpoint_error
endpoint_tried (Some endpoint) address kind direction used =
    if not (same_direction (direction_of_address address) direction) then Err wrong_direction_error
    else if not (is_type (transfer_type endpoint) kind) then Err wrong_type_error
    else if max_packet_size endpoint == 0 then Err no_packet_size_error
    else if used then Err endpoint_in_use_error
    else Ok (max_packet_size endpoint)
