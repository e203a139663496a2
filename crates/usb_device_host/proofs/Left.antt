-- What is true of what a call leaves.
use Rattle.std.proofs.Common.{Result, Ok, Err, sym, subst}
use Rattle.usb_desc.specs.declared.error.Fail.{Fail}
use Rattle.usb_desc.specs.declared.error.Fail.TheVariants.{Cause, Memory}
use Rattle.usb_device_host.specs.CallErrors.{Leaves}

pub left : {A E S : Type 0} (P : S → Type 0) (r : Result A (Fail E)) (new called kept : S) → Leaves r new called kept → P called → P kept → P new
left P (Ok x) new called kept is yes_ no_ = subst P (sym is) yes_
left P (Err (Cause error)) new called kept is yes_ no_ = subst P (sym is) yes_
left P (Err Memory) new called kept is yes_ no_ = subst P (sym is) no_
