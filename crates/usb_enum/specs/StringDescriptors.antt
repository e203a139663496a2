-- The text of a string descriptor that the tree keeps.
use Rattle.std.specs.Prelude.{ℕ, List, Option, Some, None, string_bytes}
use Rattle.usb_enum.specs.declared.string_descriptor.StringDescriptor.{StringDescriptor}
use Rattle.usb_enum.specs.declared.string_descriptor.StringDescriptor.TheVariants.{NotPresent, Cached}

abbrev pub text_of : StringDescriptor → Option (List ℕ)
text_of NotPresent = None
text_of (Cached text) = Some (string_bytes text)
