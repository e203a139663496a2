-- What a call leaves.
use Rattle.std.specs.Prelude.{◌≡◌, Result, Ok, Err}
use Rattle.usb_desc.specs.declared.error.Fail.{Fail}
use Rattle.usb_desc.specs.declared.error.Fail.TheVariants.{Cause, Memory}

-- a call leaves one state (`called`), whether it is refused or not, and where it lacked memory
-- another (`kept`)
abbrev pub Leaves : {A E S : Type 0} → Result A (Fail E) → S → S → S → Type 0
Leaves (Ok x) new called kept = new ≡ called
Leaves (Err (Cause error)) new called kept = new ≡ called
Leaves (Err Memory) new called kept = new ≡ kept
