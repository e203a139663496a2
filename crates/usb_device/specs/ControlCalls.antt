-- Control transfers that are started and awaited: what they answer, and what they leave.
use Rattle.std.specs.Prelude.{ℕ, ◌≡◌, List, Option, Some, Result, Ok, Err}
use Rattle.usb_desc.specs.declared.error.Fail.{Fail}
use Rattle.usb_desc.specs.declared.error.Fail.TheVariants.{Cause, Memory}
use Rattle.usb_xfer.specs.declared.error.TransferError.{TransferError}
use Rattle.usb_xfer.specs.declared.transfer.TransferData.{TransferData}
use Rattle.usb_device_host.specs.HostState.{HostState}
use Rattle.usb_device_host.specs.Controls.{request_started}
use Rattle.usb_device.specs.Futures.{fresh_future, future_awaited, future_taken, future_answer}

-- a request to a device was handed in, and a wait went on until its completion was there
abbrev pub request_awaited : HostState → ℕ → TransferData → ℕ → HostState
request_awaited h device request timeout =
    future_awaited (request_started h device request timeout) (fresh_future h request timeout)

-- and that was taken
abbrev pub controlled : HostState → ℕ → TransferData → ℕ → HostState
controlled h device request timeout =
    future_taken (request_awaited h device request timeout) (fresh_future h request timeout)

-- what it answered
abbrev pub control_answered : HostState → ℕ → TransferData → ℕ →
    Option (Result (List ℕ) TransferError)
control_answered h device request timeout =
    future_answer (request_awaited h device request timeout) (fresh_future h request timeout)

-- a call gives the answer that came, unless it lacked memory
abbrev pub Answers : {A E : Type 0} → Result A (Fail E) → Option (Result A E) → Type 0
Answers (Ok x) came = came ≡ Some (Ok x)
Answers (Err (Cause error)) came = came ≡ Some (Err error)
Answers (Err Memory) came = Unit {0}
