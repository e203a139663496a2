-- A call that asks the kernel several times, each time as the attempt before left it, up to the first refusal.
use Rattle.std.specs.Prelude.{ℕ, Result, Ok, Err, Option}
use Rattle.usb_kernel.specs.Value.{KernelState}
use Rattle.usb_error.specs.ErrorState.{ErrorState}
use Rattle.usb_device_endpoint.specs.CallErrors.{or_error, or_missing}

-- what one of these attempts answers, and the kernel that it leaves
pub record Attempt (A : Type 0) : Type 0 where
  pub answer : Result A ErrorState
  pub kernel : KernelState

-- the kernel is asked: its answer, an errno being this error, and what it leaves
abbrev pub asking : {A : Type 0} → (ℕ → ErrorState) → (KernelState → Result A ℕ) →
    (KernelState → KernelState) → KernelState → Attempt A
asking error answer left kernel =
    record { answer = or_error error (answer kernel); kernel = left kernel }

-- what is there, or this error
abbrev pub present : {A : Type 0} → ErrorState → Option A → KernelState → Attempt A
present error found kernel = record { answer = or_missing error found; kernel = kernel }

-- the value of the whole call
abbrev pub giving : {A : Type 0} → A → KernelState → Attempt A
giving x kernel = record { answer = Ok x; kernel = kernel }

-- one attempt after another, up to the first refusal
abbrev pub going_on : {A B : Type 0} → (A → KernelState → Attempt B) → KernelState →
    Result A ErrorState → Attempt B
going_on next kernel (Ok x) = next x kernel
going_on next kernel (Err error) = record { answer = Err error; kernel = kernel }

infixl 10 ◌>>=◌
abbrev pub ◌>>=◌ : {A B : Type 0} → (KernelState → Attempt A) → (A → KernelState → Attempt B) →
    KernelState → Attempt B
(first >>= next) kernel = going_on next (first kernel).kernel (first kernel).answer
