-- The word of a kind, as it is printed.
use Rattle.std.specs.Prelude.{ℕ, List, codes}
use Rattle.usb_error.specs.declared.kind.ErrorKind.{ErrorKind}
use Rattle.usb_error.specs.declared.kind.ErrorKind.TheVariants.{Disconnected, Busy, PermissionDenied, NotFound, Unsupported, Other}

abbrev pub kind_word : ErrorKind → List ℕ
kind_word Disconnected = codes "Disconnected"
kind_word Busy = codes "Busy"
kind_word PermissionDenied = codes "PermissionDenied"
kind_word NotFound = codes "NotFound"
kind_word Unsupported = codes "Unsupported"
kind_word Other = codes "Other"
