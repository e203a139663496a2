-- What an error of reading a descriptor prints.
use Rattle.std.specs.Prelude.{ℕ, List, codes}
use Rattle.usb_xfer.specs.TransferTexts.{transfer_error_text}
use Rattle.usb_error.specs.declared.descriptor_error.GetDescriptorError.{GetDescriptorError}
use Rattle.usb_error.specs.declared.descriptor_error.GetDescriptorError.TheVariants.{Transfer, InvalidDescriptor}

abbrev pub descriptor_error_text : GetDescriptorError → List ℕ
descriptor_error_text (Transfer error) = transfer_error_text error
descriptor_error_text InvalidDescriptor = codes "invalid descriptor"
