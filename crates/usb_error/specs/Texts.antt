-- What an error prints: its message, and then its code where one stands.
use Rattle.std.specs.Prelude.{ℕ, Option, Some, None, List, [], ◌++◌, codes}
use Rattle.usb_xfer.specs.TransferTexts.{errno_text}
use Rattle.usb_error.specs.Messages.{message_text}
use Rattle.usb_error.specs.ErrorState.{ErrorState}

abbrev pub code_text : Option ℕ → List ℕ
code_text None = []
code_text (Some code) = codes " (" ++ errno_text code ++ codes ")"

abbrev pub error_text : ErrorState → List ℕ
error_text e = message_text e.message ++ code_text e.code
