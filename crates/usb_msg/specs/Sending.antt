-- How a frame is sent: one write accepts it, and then its message is ended.
use Rattle.std.specs.Prelude.{ℕ, ◌≡◌, ◌⊎◌, List, [], ◌∷◌, unwrap_or, Result, Ok, Err}
use Rattle.usb_device_endpoint.specs.BusCalls.{BusCalls}
use Rattle.usb_device_endpoint.specs.BusState.{BusState}
use Rattle.usb_io.specs.Answered.{answered}
use Rattle.usb_io.specs.Carried.{TellsOn}
use Rattle.usb_io.specs.Writers.{WriterState, Writing}
use Rattle.usb_io.specs.WriteAnswers.{write_came, WriteShort, submit_end_came, SubmitEndShort}
use Rattle.usb_io.specs.Writes.{Accept, Flush, Finish}
use Rattle.usb_msg.specs.declared.sending.SendFault.{SendFault}
use Rattle.usb_msg.specs.declared.sending.SendFault.TheVariants.{NotWritten, NoWrite, NoEnd}

-- a frame was sent
pub record FrameSent {S : Type 0} (k : BusCalls S) (frame : List ℕ) (old new : Writing S) : Type 0 where
  pub count : ℕ
  pub mid : Writing S
  pub written : write_came k old.writer.timeout frame old ≡ answered (Ok count) mid
  pub sent : new ≡ submit_end_came k mid

-- it was accepted, and for its end there was no memory
pub record FrameUnended {S : Type 0} (k : BusCalls S) (frame : List ℕ) (old new : Writing S) : Type 0 where
  pub count : ℕ
  pub mid : Writing S
  pub written : write_came k old.writer.timeout frame old ≡ answered (Ok count) mid
  pub short : SubmitEndShort k mid new

-- why it was not sent
abbrev pub SendFails : {S : Type 0} → BusCalls S → List ℕ → Writing S → Writing S → SendFault → Type 0
SendFails k frame old new (NotWritten f) = write_came k old.writer.timeout frame old ≡ answered (Err f) new
SendFails k frame old new NoWrite = WriteShort k old.writer.timeout frame old new
SendFails k frame old new NoEnd = FrameUnended k frame old new

-- what was written: a whole message, nothing, or its bytes without their end
abbrev pub TellsSent : BusState → BusState → WriterState → WriterState → List ℕ → Result (Unit {0}) SendFault → Type 0
TellsSent old new w w' frame (Ok u) = TellsOn old new w w' (Finish ∷ Accept frame ∷ [])
TellsSent old new w w' frame (Err (NotWritten f)) = TellsOn old new w w' []
TellsSent old new w w' frame (Err NoWrite) = TellsOn old new w w' []
TellsSent old new w w' frame (Err NoEnd) = TellsOn old new w w' (Accept frame ∷ []) ⊎ TellsOn old new w w' (Flush ∷ Accept frame ∷ [])

-- no bytes stand behind a call, unless the end found no memory
abbrev pub LeavesNone : WriterState → Result (Unit {0}) SendFault → Type 0
LeavesNone w (Err NoEnd) = Unit {0}
LeavesNone w _ = unwrap_or w.buffer [] ≡ []
