-- The texts of transfer errors.
use Rattle.std.specs.Prelude.{ℕ, Bool, Result, Ok, Err, List, ◌++◌, codes, decimal}
use Rattle.usb_xfer.specs.declared.error.TransferError.{TransferError}
use Rattle.usb_xfer.specs.declared.error.TransferError.TheVariants.{Cancelled, Stall, Disconnected, Fault, InvalidArgument, Unknown}
use Rattle.usb_xfer.specs.TransferStatus.{status_of}

-- an error code of the system, as texts name it
abbrev pub errno_text : ℕ → List ℕ
errno_text code = codes "errno " ++ decimal code

-- what an error prints
abbrev pub transfer_error_text : TransferError → List ℕ
transfer_error_text Cancelled = codes "transfer was cancelled"
transfer_error_text Stall = codes "endpoint stalled"
transfer_error_text Disconnected = codes "device disconnected"
transfer_error_text Fault = codes "hardware fault or protocol violation"
transfer_error_text InvalidArgument = codes "invalid or unsupported argument"
transfer_error_text (Unknown code) = codes "unknown (" ++ errno_text code ++ codes ")"

-- the word of an error in an answer
abbrev pub error_word : TransferError → List ℕ
error_word Cancelled = codes "cancelled"
error_word Stall = codes "stall"
error_word Disconnected = codes "disconnected"
error_word Fault = codes "fault"
error_word InvalidArgument = codes "invalid"
error_word (Unknown code) = codes "unknown:" ++ decimal code

-- the word of a status in an answer
abbrev pub word_of_status : Result (Unit {0}) TransferError → List ℕ
word_of_status (Ok done) = codes "ok"
word_of_status (Err error) = error_word error

-- the word of a transfer that was refused or not, and ended with an errno
abbrev pub status_word : Bool → ℕ → List ℕ
status_word refused errno = word_of_status (status_of refused errno)
