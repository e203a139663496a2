-- What a call answers where the kernel refuses, and where something is missing.
use Rattle.std.specs.Prelude.{ℕ, Result, Ok, Err, Option, Some, None}
use Rattle.usb_error.specs.ErrorState.{ErrorState}

-- a refusal of the kernel as the error of a call
abbrev pub or_error : {X : Type 0} → (ℕ → ErrorState) → Result X ℕ → Result X ErrorState
or_error error (Ok x) = Ok x
or_error error (Err errno) = Err (error errno)

-- what is there, or this error
abbrev pub or_missing : {X E : Type 0} → E → Option X → Result X E
or_missing error None = Err error
or_missing error (Some x) = Ok x
