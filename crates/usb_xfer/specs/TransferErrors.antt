-- What an errno of a transfer means.
use Rattle.std.specs.Prelude.{ℕ, List, [], ◌∷◌, nat_eq, if◌then◌else◌}
use Rattle.usb_xfer.specs.declared.error.TransferError.{TransferError}
use Rattle.usb_xfer.specs.declared.error.TransferError.TheVariants.{Cancelled, Stall, Disconnected, Fault, InvalidArgument, Unknown}

-- each errno that has a meaning of its own
abbrev pub errno_table : List (ℕ × TransferError)
errno_table =
    (2, Cancelled)
    ∷ (104, Cancelled)
    ∷ (110, Cancelled)
    ∷ (32, Stall)
    ∷ (19, Disconnected)
    ∷ (108, Disconnected)
    ∷ (71, Fault)
    ∷ (84, Fault)
    ∷ (75, Fault)
    ∷ (70, Fault)
    ∷ (62, Fault)
    ∷ (22, InvalidArgument)
    ∷ []

-- the row of an errno; without a row it is unknown
abbrev pub look_up : List (ℕ × TransferError) → ℕ → TransferError
look_up [] errno = Unknown errno
look_up (row ∷ rows) errno = if nat_eq errno row.0 then row.1 else look_up rows errno

-- the error of a submitted transfer that ended with an errno
abbrev pub error_of_errno : ℕ → TransferError
error_of_errno errno = look_up errno_table errno

-- nobody can cancel what was never submitted
abbrev pub never_cancelled : ℕ → TransferError → TransferError
never_cancelled errno Cancelled = Unknown errno
never_cancelled errno error = error

-- the error of a transfer whose submission was refused with an errno
abbrev pub error_of_refusal : ℕ → TransferError
error_of_refusal errno = never_cancelled errno (error_of_errno errno)
