-- What a session answered.
use Rattle.std.specs.Prelude.{ℕ, ◌≡◌, List, ◌++◌, Result, OnOk, String, string_bytes}
use Rattle.std.specs.declared.alloc.Global.{Global}
use Rattle.usb_session_calls.specs.SessionState.{SessionState}
use Rattle.usb_session_calls.specs.State.{State}
use Rattle.usb_session_calls.specs.Answer.{Answer}
use Rattle.usb_session_calls.specs.Relation.{Represents}

-- the session stands for the state behind an answer, whose line was printed behind what stood in the text before
pub record Answered (s : SessionState) (before after : List ℕ) (a : Answer) : Type 0 where
  pub state : Represents s a.state
  pub line : after ≡ before ++ a.line

-- from whatever state the session stood for, it goes to the state behind the answer, whose line is printed; of want of memory nothing is said
abbrev pub Answers : {E : Type 0} → SessionState → SessionState → String Global → String Global → Result Unit E → (State → Answer) → Type 0
Answers old new before after result answer =
    OnOk result ((state : State) → Represents old state → Answered new (string_bytes before) (string_bytes after) (answer state))
