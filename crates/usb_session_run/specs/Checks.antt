-- What the program answers to the word `check`.
use Rattle.std.specs.Prelude.{ℕ, ◌≡◌, ◌≤◌, ◌<◌, ◌⊎◌, ◌^◌, Bool, false, List, [], ◌∷◌, ◌++◌, codes, length, Result, Ok, Err}
use Rattle.std.specs.Fmt.{decimal}
use Rattle.std.specs.Str.{bytes_eq}
use Rattle.std.specs.declared.option.Option.{Option}
use Rattle.std.specs.Io.KnownBytes.{Appends, Keeps}
use Rattle.usb_script.specs.declared.error.SessionError.{SessionError}
use Rattle.usb_script.specs.declared.error.SessionError.TheVariants.{Malformed, TooLong, ReadFault, WriteFault, Memory}
use Rattle.usb_trace.specs.declared.check.Verdict.{Verdict}
use Rattle.usb_trace.specs.declared.check.Verdict.TheVariants.{Yes, No}
use Rattle.usb_trace.specs.Begins.{IsForm}
use Rattle.usb_trace.specs.Fails.{FailsFirstAt}
use Rattle.usb_trace.specs.Verdicts.{IsTrace}
use Rattle.usb_session_run.specs.Causes.{Rose, ReadWhole, TookTooMany, WrotePart}
use Rattle.usb_session_run.specs.Session.{Streams}

-- whether the words ask for a check: there is `check` alone
abbrev pub is_check : List (List ℕ) → Bool
is_check [] = false
is_check (word ∷ []) = bytes_eq word (codes "check")
is_check (word ∷ next ∷ words) = false

-- the line of a verdict
abbrev pub verdict_line : Verdict → List ℕ
verdict_line Yes = codes "yes\n"
verdict_line (No line) = codes "no " ++ (decimal line ++ codes "\n")

-- a verdict on a text of the form of a trace: it is one, or this is the first line that no trace can have there
abbrev pub IsVerdict : List ℕ → Verdict → Type 0
IsVerdict text Yes = IsTrace text
IsVerdict text (No line) = FailsFirstAt IsTrace text line

-- a text of the form of a trace was read to the end of the source, and this is the verdict on it
pub record ReadVerdict (old new : Option (List ℕ)) (verdict : Verdict) : Type 0 where
  pub text : List ℕ
  pub read : ReadWhole old new text
  pub few : length text ≤ 2 ^ 24
  pub form : IsForm text
  pub right : IsVerdict text verdict

-- a text was read to the end of the source, and this is the first line that no text of the form of a trace can have there
pub record ReadMalformed (old new : Option (List ℕ)) (line : ℕ) : Type 0 where
  pub text : List ℕ
  pub read : ReadWhole old new text
  pub few : length text ≤ 2 ^ 24
  pub first : FailsFirstAt IsForm text line

-- the verdict on what the source gave was written, in a line
pub record IsChecked (old new : Streams) (verdict : Verdict) : Type 0 where
  pub given : ReadVerdict old.left new.left verdict
  pub wrote : Appends old.written new.written (verdict_line verdict)

-- a part of the line of a verdict was written
pub record IsCutLine (old new : Streams) : Type 0 where
  pub verdict : Verdict
  pub given : ReadVerdict old.left new.left verdict
  pub wrote : WrotePart old.written new.written (verdict_line verdict)

-- why a text from this source has no verdict
abbrev pub HasNoVerdict : Option (List ℕ) → Option (List ℕ) → ℕ → ℕ → SessionError → Type 0
HasNoVerdict old new before now (Malformed line) = ReadMalformed old new line
HasNoVerdict old new before now TooLong = TookTooMany (2 ^ 24) old new
HasNoVerdict old new before now ReadFault = Rose before now
HasNoVerdict old new before now WriteFault = ⊥
HasNoVerdict old new before now Memory = Unit {0}

-- why a check fails, and what it wrote: nothing, but where writing failed
abbrev pub IsUnchecked : Streams → Streams → SessionError → Type 0
IsUnchecked old new (Malformed line) = ReadMalformed old.left new.left line × Keeps old.written new.written
IsUnchecked old new TooLong = TookTooMany (2 ^ 24) old.left new.left × Keeps old.written new.written
IsUnchecked old new ReadFault = Rose old.read_faults new.read_faults × Keeps old.written new.written
IsUnchecked old new WriteFault = Rose old.write_faults new.write_faults × IsCutLine old new
IsUnchecked old new Memory = Keeps old.written new.written

-- a check that gave this answer
abbrev pub IsCheck : Streams → Streams → Result Verdict SessionError → Type 0
IsCheck old new (Ok verdict) = IsChecked old new verdict
IsCheck old new (Err e) = IsUnchecked old new e

-- the status of a check of a text that was read to its end, where writing didn't fail: 0 where it has the form of a trace, 3 where it
-- has not, and 7 where memory was lacking
abbrev pub TellsForm : List ℕ → ℕ → Type 0
TellsForm text status = ((status ≡ 0) × IsForm text) ⊎ ((status ≡ 3) × (IsForm text → ⊥)) ⊎ (status ≡ 7)

-- the status of a check of a text where nothing fails: 4 where it is too long, and else by its form; 7 where memory was lacking
pub record TellsText (text : List ℕ) (status : ℕ) : Type 0 where
  pub long : 2 ^ 24 < length text → (status ≡ 4) ⊎ (status ≡ 7)
  pub form : length text ≤ 2 ^ 24 → TellsForm text status

-- the status of a check of a trace, of what the sink got before and after, where nothing fails: 0, and the line `yes` was written; or 7
-- where memory was lacking
abbrev pub TellsYes : Option (List ℕ) → Option (List ℕ) → ℕ → Type 0
TellsYes old new status = ((status ≡ 0) × Appends old new (verdict_line Yes)) ⊎ (status ≡ 7)
