-- How a function that may lack memory answers what a definition gives.
use Rattle.std.specs.Prelude.{◌≡◌, Option, Some, None, Result, Ok, Err}
use Rattle.usb_script_words.specs.declared.line_error.LineError.{LineError}
use Rattle.usb_script_words.specs.declared.line_error.LineError.TheVariants.{Malformed, Memory}

-- a reading: what the definition gives, malformed exactly where it gives nothing, or want of memory
abbrev pub Gives : {X Y : Type 0} → (X → Y) → Result X LineError → Option Y → Type 0
Gives view (Ok x) read = read ≡ Some (view x)
Gives view (Err Malformed) read = read ≡ None
Gives view (Err Memory) read = Unit {0}
