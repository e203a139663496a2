-- The kinds of endpoints that a script opens: bulk and interrupt endpoints, of either direction.
use Rattle.usb_desc.specs.declared.types.Direction.{Direction}
use Rattle.usb_desc.specs.declared.types.Direction.TheVariants.{In, Out}
use Rattle.usb_desc.specs.declared.types.TransferType.{TransferType}
use Rattle.usb_desc.specs.declared.types.TransferType.TheVariants.{Bulk, Interrupt}
use Rattle.usb_script_words.specs.declared.endpoint_kind.EndpointKind.{EndpointKind}
use Rattle.usb_script_words.specs.declared.endpoint_kind.EndpointKind.TheVariants.{BulkIn, BulkOut, InterruptIn, InterruptOut}

-- the transfer type. USB 2.0, sections 5.7 and 5.8.
abbrev pub transfer_type_of : EndpointKind → TransferType
transfer_type_of BulkIn = Bulk
transfer_type_of BulkOut = Bulk
transfer_type_of InterruptIn = Interrupt
transfer_type_of InterruptOut = Interrupt

-- the direction, as the host sees it
abbrev pub direction_of : EndpointKind → Direction
direction_of BulkIn = In
direction_of BulkOut = Out
direction_of InterruptIn = In
direction_of InterruptOut = Out
