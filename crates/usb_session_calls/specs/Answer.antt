-- The answer of a line: the state behind it, and what is printed.
use Rattle.std.specs.Prelude.{ℕ, List, [], Option, Some, None}
use Rattle.usb_error.specs.ErrorState.{ErrorState}
use Rattle.usb_session_text.specs.Calls.{ok_line, condition_line, error_line}
use Rattle.usb_device_host.specs.HostState.{HostState}
use Rattle.usb_session_calls.specs.State.{State, with_host}

-- the state behind a line, and what is printed, which is empty where the line has no answer
pub record Answer : Type 0 where
  pub state : State
  pub line : List ℕ

-- an answer of this state and this line
abbrev pub answer_with : State → List ℕ → Answer
answer_with state line = record { state = state; line = line }

-- a barred call (one that can't be made now) does nothing
abbrev pub condition_answer : State → Answer
condition_answer state = answer_with state condition_line

-- a call is done that gives no value
abbrev pub ok_answer : State → Answer
ok_answer state = answer_with state ok_line

-- a call is refused
abbrev pub error_answer : State → ErrorState → Answer
error_answer state error = answer_with state (error_line error)

-- a line that has no answer
abbrev pub silent : State → Answer
silent state = answer_with state []

-- where something is open under a name, the answer of a call on it; else another answer
abbrev pub if_open : {X : Type 0} → Option X → (X → Answer) → Answer → Answer
if_open None call otherwise = otherwise
if_open (Some x) call otherwise = call x

-- what a call leaves of the host, and what it prints
pub record HostAnswer : Type 0 where
  pub host : HostState
  pub line : List ℕ

abbrev pub left : HostState → List ℕ → HostAnswer
left host line = record { host = host; line = line }

-- the answer of such a call
abbrev pub at_host : State → HostAnswer → Answer
at_host state a = answer_with (with_host state a.host) a.line
