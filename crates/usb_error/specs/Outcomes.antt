-- Calls that may be refused, and that may lack memory.
use Rattle.std.specs.Prelude.{◌≡◌, Result, Ok, Err}
use Rattle.usb_desc.specs.declared.error.Fail.{Fail}
use Rattle.usb_desc.specs.declared.error.Fail.TheVariants.{Cause, Memory}

-- one call after another, up to the first refusal
infixl 10 ◌>>=◌
abbrev pub ◌>>=◌ : {A B E : Type 0} → Result A E → (A → Result B E) → Result B E
Ok x >>= f = f x
Err e >>= f = Err e

-- what a call answered, with f of its value
abbrev pub result_map : {A B E : Type 0} → (A → B) → Result A E → Result B E
result_map f (Ok x) = Ok (f x)
result_map f (Err e) = Err e

-- a call answered this, unless it lacked memory
abbrev pub Tried : {A E : Type 0} → Result A (Fail E) → Result A E → Type 0
Tried (Ok x) tried = tried ≡ Ok x
Tried (Err (Cause error)) tried = tried ≡ Err error
Tried (Err Memory) tried = Unit {0}
