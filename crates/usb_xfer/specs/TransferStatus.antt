-- How a transfer ended: refused or not, and its errno, where 0 means that it went well.
use Rattle.std.specs.Prelude.{ℕ, Bool, Result, Ok, Err, nat_eq, if◌then◌else◌}
use Rattle.usb_xfer.specs.declared.error.TransferError.{TransferError}
use Rattle.usb_xfer.specs.TransferErrors.{error_of_errno, error_of_refusal}

-- the status in a completion
abbrev pub status_of : Bool → ℕ → Result (Unit {0}) TransferError
status_of refused errno =
    if nat_eq errno 0 then Ok tt else Err (if refused then error_of_refusal errno else error_of_errno errno)
