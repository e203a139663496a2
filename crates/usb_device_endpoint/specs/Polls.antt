-- What a poll answers.
use Rattle.std.specs.Prelude.{Option, Some, None}
use Rattle.futures.specs.declared.task.Poll.{Poll}
use Rattle.futures.specs.declared.task.Poll.TheVariants.{Ready, Pending}

-- the value of a poll, if it is ready
abbrev pub in_poll : {A : Type 0} → Poll A → Option A
in_poll (Ready x) = Some x
in_poll Pending = None

-- a fact of the value of a poll that is ready
abbrev pub IfReady : {A : Type 0} → Poll A → (A → Type 0) → Type 0
IfReady (Ready x) P = P x
IfReady Pending P = Unit {0}

-- a fact where a poll is pending
abbrev pub IfPending : {A : Type 0} → Poll A → Type 0 → Type 0
IfPending (Ready x) P = Unit {0}
IfPending Pending P = P
