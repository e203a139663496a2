-- What a call leaves behind at its source and its sink, and why it failed.
use Rattle.std.specs.Prelude.{ℕ, ◌≡◌, ◌≢◌, ◌+◌, ◌-◌, ◌^◌, ◌≤◌, min, List, [], ◌++◌, length, OnOk, OnErr, Ok, Err}
use Rattle.std.specs.declared.option.Option.{Option}
use Rattle.std.specs.declared.result.Result.{Result}
use Rattle.std.specs.Io.KnownBytes.{Appends, Consumes, IsAtEnd}
use Rattle.usb_script.specs.declared.error.SessionError.{SessionError}
use Rattle.usb_script.specs.declared.error.SessionError.TheVariants.{Malformed, TooLong, ReadFault, WriteFault, Memory}

-- a count of faults rose, or is at the greatest `u64`, where it can't rise and counts as risen
abbrev pub Rose : ℕ → ℕ → Type 0
Rose before now = min (before + 1) (2 ^ 64 - 1) ≤ now

-- one call failed: the count of faults rose by one, or stays at the greatest `u64`
abbrev pub RoseByOne : ℕ → ℕ → Type 0
RoseByOne before now = now ≡ min (before + 1) (2 ^ 64 - 1)

-- a count of faults never falls; it stays over a call that doesn't fail, and rises by one over a failure, up to the greatest `u64`
pub record CountsFaults {T E : Type 0} (before now : ℕ) (result : Result T E) : Type 0 where
  pub later : before ≤ now
  pub none : OnOk result (now ≡ before)
  pub one : OnErr result (RoseByOne before now)

-- of a source or a sink: one call failed, and it was the last
pub record FailedLast (before now : ℕ) (last : Type 0) : Type 0 where
  pub one : RoseByOne before now
  pub failed : last

-- the bytes written so far, and those that are left, make the whole
pub record Wrote (old new : Option (List ℕ)) (whole left : List ℕ) : Type 0 where
  pub done : List ℕ
  pub appended : Appends old new done
  pub complete : done ++ left ≡ whole

-- a prefix of the whole was written
abbrev pub WrotePrefix : Option (List ℕ) → Option (List ℕ) → List ℕ → Type 0
WrotePrefix old new whole = (left : List ℕ) × Wrote old new whole left

-- a prefix of the whole was written, and not all of it
abbrev pub WrotePart : Option (List ℕ) → Option (List ℕ) → List ℕ → Type 0
WrotePart old new whole = (left : List ℕ) × (left ≢ []) × Wrote old new whole left

-- these bytes were read, to the end of the source
pub record ReadWhole (old new : Option (List ℕ)) (bytes : List ℕ) : Type 0 where
  pub taken : Consumes old new bytes
  pub end : IsAtEnd new

-- at most so many bytes were read
pub record TookAtMost (most : ℕ) (old new : Option (List ℕ)) : Type 0 where
  pub bytes : List ℕ
  pub taken : Consumes old new bytes
  pub count : length bytes ≤ most

-- one more than so many bytes were read
pub record TookTooMany (most : ℕ) (old new : Option (List ℕ)) : Type 0 where
  pub bytes : List ℕ
  pub taken : Consumes old new bytes
  pub count : length bytes ≡ most + 1

-- a piece was read, and appended to what was read before
pub record ReadPiece (old new : Option (List ℕ)) (before after : List ℕ) (room : ℕ) : Type 0 where
  pub piece : List ℕ
  pub taken : Consumes old new piece
  pub appended : after ≡ before ++ piece
  pub fits : length piece ≤ room
  pub end : length piece ≡ 0 → IsAtEnd new

-- Of an answer, and of the statement that the source has ended behind it: it has where the whole text was read, and has not where
-- the text was too long or a read failed. Where memory was wanting either may be
abbrev pub EndsReading : {X : Type 0} → Type 0 → Result X SessionError → Type 0
EndsReading ended (Ok x) = ended
EndsReading ended (Err (Malformed line)) = ended
EndsReading ended (Err WriteFault) = ended
EndsReading ended (Err TooLong) = ¬ ended
EndsReading ended (Err ReadFault) = ¬ ended
EndsReading ended (Err Memory) = Unit {0}

-- what reading a text may answer
abbrev pub IsReadingError : SessionError → Type 0
IsReadingError ReadFault = Unit {0}
IsReadingError TooLong = Unit {0}
IsReadingError Memory = Unit {0}
IsReadingError WriteFault = ⊥
IsReadingError (Malformed line) = ⊥

-- what writing answers may answer
abbrev pub IsWritingError : SessionError → Type 0
IsWritingError WriteFault = Unit {0}
IsWritingError Memory = Unit {0}
IsWritingError TooLong = ⊥
IsWritingError ReadFault = ⊥
IsWritingError (Malformed line) = ⊥
