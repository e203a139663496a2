-- A call on a writer that a session has open under a name.
use Rattle.std.specs.Prelude.{ℕ, ◌≡◌, Some, Result, OnOk, String, string_bytes}
use Rattle.std.specs.declared.alloc.Global.{Global}
use Rattle.usb_device_host.specs.HostState.{HostState}
use Rattle.usb_io.specs.Writers.{WriterState}
use Rattle.usb_session_calls.specs.Names.{named, change_named}
use Rattle.usb_session_calls.specs.State.{State, Writer}
use Rattle.usb_session_calls.specs.Answer.{Answer}
use Rattle.usb_session_calls.specs.SessionState.{SessionState}
use Rattle.usb_session_calls.specs.Relation.{Represents}
use Rattle.usb_session_calls.specs.Answered.{Answered}

-- the session with the host and the writer that a call left
abbrev pub with_writer_called : SessionState → ℕ → HostState → WriterState → SessionState
with_writer_called s w host y =
    record s {
      host = host;
      writers = change_named (λ x. y) s.writers w;
    }

-- in whatever session the writer is open it goes to the state behind the answer, whose line is
-- printed; of want of memory nothing is said. x is the writer before the call, and y after it
abbrev pub WriterAnswers : {E : Type 0} → HostState → HostState → WriterState → WriterState →
    String Global → String Global → Result Unit E → (State → ℕ → Writer → Answer) → Type 0
WriterAnswers old new x y before after result call =
    OnOk result
    ((s : SessionState) (state : State) (w : ℕ) (at : Writer) → Represents s state → s.host ≡ old →
    named state.writers w ≡ Some at → at.state ≡ x →
    Answered (with_writer_called s w new y) (string_bytes before) (string_bytes after) (call state w at))
