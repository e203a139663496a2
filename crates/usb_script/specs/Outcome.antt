-- How parsing answers what a definition gives.
use Rattle.std.specs.Prelude.{◌≡◌, Result, Err}
use Rattle.usb_script.specs.declared.error.SessionError.{SessionError}
use Rattle.usb_script.specs.declared.error.SessionError.TheVariants as errors

-- this answer, or want of memory
abbrev pub OrMemory : {X : Type 0} → Result X SessionError → Result X SessionError → Type 0
OrMemory (Err errors.Memory) answer = Unit {0}
OrMemory result answer = answer ≡ result

-- what parsing may answer
abbrev pub IsParsingError : SessionError → Type 0
IsParsingError (errors.Malformed line) = Unit {0}
IsParsingError errors.TooLong = Unit {0}
IsParsingError errors.ReadFault = ⊥
IsParsingError errors.WriteFault = ⊥
IsParsingError errors.Memory = Unit {0}
