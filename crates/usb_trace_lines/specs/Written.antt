-- What writing lines leaves behind.
use Rattle.std.specs.Prelude.{ℕ, ◌≡◌, ◌≢◌, ◌+◌, ◌-◌, ◌^◌, min, List, [], ◌∷◌, ◌++◌}
use Rattle.std.specs.declared.option.Option.{Option}
use Rattle.std.specs.Io.KnownBytes.{Appends}

-- what takes lines: the bytes of the lines that were written, where they are told; the line that is
-- begun; how many writes failed; and where the lines go, a number that no write changes (of what
-- holds a reference, the name that proofs know it by)
pub record LinesState : Type 0 where
  pub written : Option (List ℕ)
  pub begun : List ℕ
  pub faults : ℕ
  pub outlet : ℕ

-- more bytes of the line that is begun
abbrev pub begun_with : LinesState → List ℕ → LinesState
begun_with s bytes = record s { begun = s.begun ++ bytes }

-- the line that is begun, with its LF
abbrev pub ended_line : LinesState → List ℕ
ended_line s = s.begun ++ 10 ∷ []

-- whole lines were written, of these bytes, and none is begun
pub record HasWritten (old new : LinesState) (bytes : List ℕ) : Type 0 where
  pub appended : Appends old.written new.written bytes
  pub empty : new.begun ≡ []
  pub quiet : new.faults ≡ old.faults
  pub same : new.outlet ≡ old.outlet

-- one write failed, and a part of these bytes was written: what was done and what is left make the whole. A count of faults stays at
-- the greatest `u64`
pub record HasStopped (old new : LinesState) (whole : List ℕ) : Type 0 where
  pub done : List ℕ
  pub left : List ℕ
  pub appended : Appends old.written new.written done
  pub complete : done ++ left ≡ whole
  pub part : left ≢ []
  pub rose : new.faults ≡ min (old.faults + 1) (2 ^ 64 - 1)
  pub same : new.outlet ≡ old.outlet
