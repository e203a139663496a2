-- The ranges of what a line tells.
use Rattle.std.specs.Prelude.{ℕ, ◌<◌, ◌≤◌, ◌^◌, length, IfSome, Result, Err}
use Rattle.hex.specs.Hex.{IsBytes}
use Rattle.usb_kernel_devices.specs.Errnos.{IsErrno}
use Rattle.usb_xfer.specs.declared.error.TransferError.{TransferError}
use Rattle.usb_xfer.specs.declared.error.TransferError.TheVariants.{Unknown}
use Rattle.usb_kernel.specs.declared.event.Event.{Event}
use Rattle.usb_kernel.specs.declared.event.Event.TheVariants.{Submit, Refuse, Packet, Ack, Echo, Fail, Discard, Reap, Unplug}
use Rattle.usb_kernel.specs.declared.event.Body.{Body}
use Rattle.usb_kernel.specs.declared.event.Body.TheVariants.{Wanted, Sent}
use Rattle.usb_trace_lines.specs.declared.fate_line.FateLine.{FateLine}
use Rattle.usb_trace_lines.specs.declared.line.TraceLine.{TraceLine}
use Rattle.usb_trace_lines.specs.declared.line.TraceLine.TheVariants as line

-- how many bytes a body wants, or has, at most: 65,536 rounded up to a multiple of a maximum packet size, which is at most 2047
abbrev pub IsBodySized : Body → Type 0
IsBodySized (Wanted n) = n ≤ 67582
IsBodySized (Sent bytes) = length bytes ≤ 67582

-- what a line can tell of an event, its types aside
abbrev pub IsSized : Event → Type 0
IsSized (Submit t d e m body room deadline) = (m ≤ 65536) × IsBodySized body
IsSized (Refuse t d e m body room errno) = (m ≤ 65536) × (IsBodySized body × IsErrno errno)
IsSized (Packet d e bytes) = length bytes ≤ 65536
IsSized (Fail d e errno) = IsErrno errno
IsSized _ = Unit {0}

-- numbers that fit a byte, and 64 bits
abbrev pub IsU8 : ℕ → Type 0
IsU8 n = n < 256

abbrev pub IsU64 : ℕ → Type 0
IsU64 n = n < 2 ^ 64

-- what is sent is bytes
abbrev pub HasBytes : Body → Type 0
HasBytes (Wanted n) = Unit {0}
HasBytes (Sent bytes) = IsBytes bytes

-- a body goes with the direction of its endpoint: bytes are wanted exactly where bit 7 is set
abbrev pub GoesWith : ℕ → Body → Type 0
GoesWith e (Wanted n) = 128 ≤ e
GoesWith e (Sent bytes) = (e < 128) × IsBytes bytes

-- a submission's fields
pub record IsSubmission (t d e m : ℕ) (body : Body) : Type 0 where
  pub ticket : IsU64 t
  pub device : IsU8 d
  pub endpoint : IsU8 e
  pub maximum : m ≤ 65536
  pub sized : IsBodySized body
  pub direction : GoesWith e body

-- the events that lines tell
abbrev pub IsTold : Event → Type 0
IsTold (Submit t d e m body room deadline) = IsSubmission t d e m body × IfSome deadline IsU64
IsTold (Refuse t d e m body room errno) = IsSubmission t d e m body × IsErrno errno
IsTold (Packet d e bytes) = IsU8 d × (IsU8 e × ((length bytes ≤ 65536) × IsBytes bytes))
IsTold (Ack d e) = IsU8 d × IsU8 e
IsTold (Echo d o i) = IsU8 d × (IsU8 o × IsU8 i)
IsTold (Fail d e errno) = IsU8 d × (IsU8 e × IsErrno errno)
IsTold (Discard t) = IsU64 t
IsTold (Reap t) = IsU64 t
IsTold (Unplug d) = IsU8 d

-- the errno in a status is from 1 to 4095
abbrev pub IsStatus : Result (Unit {0}) TransferError → Type 0
IsStatus (Err (Unknown errno)) = IsErrno errno
IsStatus _ = Unit {0}

-- the fates that lines tell
pub record IsFateTold (f : FateLine) : Type 0 where
  pub ticket : IsU64 f.ticket
  pub status : IfSome f.status IsStatus
  pub count : f.count ≤ 67582

-- the lines of a trace
abbrev pub IsLineTold : TraceLine → Type 0
IsLineTold line.First = Unit {0}
IsLineTold (line.Event event) = IsTold event
IsLineTold (line.Fate f) = IsFateTold f
IsLineTold line.Last = Unit {0}
