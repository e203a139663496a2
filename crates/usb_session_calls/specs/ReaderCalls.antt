-- A call on a reader that a session has open under a name.
use Rattle.std.specs.Prelude.{ℕ, ◌≡◌, Some, Result, OnOk, String, string_bytes}
use Rattle.std.specs.declared.alloc.Global.{Global}
use Rattle.usb_device_host.specs.HostState.{HostState}
use Rattle.usb_io.specs.Readers.{ReaderState}
use Rattle.usb_session_calls.specs.Names.{named, change_named}
use Rattle.usb_session_calls.specs.State.{State, Reader}
use Rattle.usb_session_calls.specs.Answer.{Answer}
use Rattle.usb_session_calls.specs.SessionState.{SessionState}
use Rattle.usb_session_calls.specs.Relation.{Represents}
use Rattle.usb_session_calls.specs.Answered.{Answered}

-- the session with the host and the reader that the call left
abbrev pub with_reader_called : SessionState → ℕ → HostState → ReaderState → SessionState
with_reader_called s r host y =
    record s {
      host = host;
      readers = change_named (λ x. y) s.readers r;
    }

-- in whatever session the reader is open it goes to the state behind the answer, whose line is
-- printed; of want of memory nothing is said. x is the reader before the call, and y after it
abbrev pub ReaderAnswers : {E : Type 0} → HostState → HostState → ReaderState → ReaderState →
    String Global → String Global → Result Unit E → (State → ℕ → Reader → Answer) → Type 0
ReaderAnswers old new x y before after result call =
    OnOk result
    ((s : SessionState) (state : State) (r : ℕ) (at : Reader) → Represents s state → s.host ≡ old →
    named state.readers r ≡ Some at → at.state ≡ x →
    Answered (with_reader_called s r new y) (string_bytes before) (string_bytes after) (call state r at))
