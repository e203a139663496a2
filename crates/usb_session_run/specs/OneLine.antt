-- A run that writes one line.
use Rattle.std.specs.Prelude.{ℕ, ◌≡◌, List, Result, Ok, Err}
use Rattle.std.specs.declared.option.Option.{Option}
use Rattle.std.specs.Io.KnownBytes.{Appends}
use Rattle.usb_script.specs.declared.error.SessionError.{SessionError}
use Rattle.usb_script.specs.declared.error.SessionError.TheVariants.{WriteFault, Memory}
use Rattle.usb_session_run.specs.Causes.{RoseByOne, WrotePart}

-- Of the line, what the sink got before and after, its faults before and after, and the answer.
-- Ok: the whole line was written, and no write failed. WriteFault: a prefix of it and not all, and
-- one write failed. Memory: nothing
abbrev pub WroteLine : {X : Type 0} → List ℕ → Option (List ℕ) → Option (List ℕ) → ℕ → ℕ → Result X SessionError → Type 0
WroteLine line old new before now (Ok x) = Appends old new line × (now ≡ before)
WroteLine line old new before now (Err WriteFault) = RoseByOne before now × WrotePart old new line
WroteLine line old new before now (Err Memory) = (new ≡ old) × (now ≡ before)
WroteLine line old new before now (Err _) = ⊥
