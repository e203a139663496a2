-- Answers that are gathered in memory.
use Rattle.std.specs.Prelude.{ℕ, Bool, List}

-- the bytes that were taken, how often memory was lacking, and whether it was at the last write
pub record Gathering : Type 0 where
  pub bytes : List ℕ
  pub faults : ℕ
  pub has_failed : Bool
