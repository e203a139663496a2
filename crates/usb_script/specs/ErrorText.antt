-- What a session's error prints.
use Rattle.std.specs.Prelude.{ℕ, List, ◌++◌, codes}
use Rattle.std.specs.Fmt.{decimal}
use Rattle.usb_script.specs.declared.error.SessionError.{SessionError}
use Rattle.usb_script.specs.declared.error.SessionError.TheVariants.{Malformed, TooLong, ReadFault, WriteFault, Memory}

abbrev pub error_text : SessionError → List ℕ
error_text (Malformed line) = codes "malformed line " ++ decimal line
error_text TooLong = codes "script too long"
error_text ReadFault = codes "read fault"
error_text WriteFault = codes "write fault"
error_text Memory = codes "out of memory"
