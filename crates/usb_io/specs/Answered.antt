-- What a call on a reader or a writer answered, and what it left.
use Rattle.std.specs.Prelude.{◌≡◌, ◌≢◌, Result, Err, IfErr}
use Rattle.usb_desc.specs.declared.error.Fail.{Fail}
use Rattle.usb_desc.specs.declared.error.Fail.TheVariants.{Cause, Memory}
use Rattle.futures.specs.declared.task.Poll.{Poll}
use Rattle.futures.specs.declared.task.Poll.TheVariants.{Ready}

-- a value (A) or why there is none (F), and the bus with the reader or the writer (W)
pub record Answered (A F W : Type 0) : Type 0 where
  pub answer : Result A F
  pub left : W

abbrev pub answered : {A F W : Type 0} → Result A F → W → Answered A F W
answered answer left = record { answer = answer; left = left }

-- what is true of each failure
abbrev pub FailsBy : {E : Type 0} → Fail E → (E → Type 0) → Type 0 → Type 0
FailsBy (Cause e) P M = P e
FailsBy Memory P M = M

-- a call failed as it says; or memory was lacking, and then this is so
abbrev pub FailedAs : {A F W : Type 0} → Answered A F W → Type 0 → W → Fail F → Type 0
FailedAs a short left e = FailsBy e (λ f. a ≡ answered (Err f) left) short

-- a poll is a wait of no time. Where that is in vain it is pending
abbrev pub as_wait : {A F : Type 0} → F → Poll (Result A (Fail F)) → Result A (Fail F)
as_wait in_vain (Ready r) = r
as_wait in_vain Poll.Pending = Err (Cause in_vain)

-- and so it does not fail by that
abbrev pub InTime : {A F : Type 0} → F → Poll (Result A (Fail F)) → Type 0
InTime in_vain (Ready r) = IfErr r (λ e. FailsBy e (λ f. f ≢ in_vain) (Unit {0}))
InTime in_vain Poll.Pending = Unit {0}
