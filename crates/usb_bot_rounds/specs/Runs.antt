-- What the commands of rounds make of a tally.
use Rattle.std.specs.Prelude.{ℕ, ◌≡◌, ◌+◌, ◌*◌, ◌≤◌, Bool, List, Option, Some, None, Result, Ok, Err, if◌then◌else◌}
use Rattle.std.specs.List.{sum}
use Rattle.usb_desc.specs.declared.error.NoMemory.{NoMemory}
use Rattle.usb_bot.specs.declared.error.BotError.{BotError}
use Rattle.usb_bot.specs.declared.error.BotError.TheVariants as error
use Rattle.usb_bot_rounds.specs.declared.tally.Tally.{Tally}
use Rattle.usb_bot_rounds.specs.Plain.{PlainAnswer, Wrote, Gave, Refused}

-- a command that is not answered failed, or lacked memory
abbrev pub IsRefusal : BotError → Type 0
IsRefusal (error.Failed residue) = Unit {0}
IsRefusal error.Memory = Unit {0}
IsRefusal _ = ⊥

-- what a command passed with: with nothing, where it failed
abbrev pub Passes : {A : Type 0} → Result A BotError → Result (Option A) NoMemory → Type 0
Passes (Ok done) (Ok passed) = passed ≡ Some done
Passes (Ok done) (Err e) = ⊥
Passes (Err (error.Failed residue)) (Ok passed) = passed ≡ None
Passes (Err error.Memory) (Err e) = Unit {0}
Passes (Err _) _ = ⊥

-- the answer of a plain list of blocks to a write and to a read that came to this
abbrev pub written_answer : Bool → PlainAnswer
written_answer written = if written then Wrote else Refused

abbrev pub read_answer : Option (List ℕ) → PlainAnswer
read_answer None = Refused
read_answer (Some bytes) = Gave bytes

-- a tally with one more answer
abbrev pub counted : PlainAnswer → Tally → Tally
counted Wrote t = record t { writes = t.writes + 1 }
counted (Gave bytes) t = record t { reads = t.reads + 1; sum = t.sum + sum bytes }
counted Refused t = record t { failed = t.failed + 1 }

-- no number of a tally is greater than those of n rounds may be. At most 64 blocks are read at once
pub record IsWithin (n : ℕ) (t : Tally) : Type 0 where
  pub writes : t.writes ≤ 2 * n
  pub reads : t.reads ≤ 2 * n
  pub failed : t.failed ≤ 2 * n
  pub sum : t.sum ≤ n * (255 * 32768)
