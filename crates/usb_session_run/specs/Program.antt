-- What the program answers to its words.
use Rattle.std.specs.Prelude.{ℕ, ◌≡◌, ◌⊎◌, Bool, true, false, not, ◌&&◌, is_none, List, [], ◌∷◌, ◌++◌, codes, Result, Ok, Err}
use Rattle.std.specs.Fmt.{decimal}
use Rattle.std.specs.Str.{bytes_eq}
use Rattle.std.specs.declared.option.Option.{Option}
use Rattle.std.specs.Io.KnownBytes.{Appends}
use Rattle.usb_script.specs.declared.error.SessionError.{SessionError}
use Rattle.usb_script.specs.declared.error.SessionError.TheVariants.{Malformed, TooLong, ReadFault, WriteFault, Memory}
use Rattle.usb_session_run.specs.Causes.{RoseByOne, WrotePrefix}
use Rattle.usb_session_run.specs.OneLine.{WroteLine}
use Rattle.usb_session_run.specs.Live.{live_count}
use Rattle.usb_session_run.specs.Generate.{generate_count}
use Rattle.usb_session_run.specs.Disk.{disk_count}
use Rattle.usb_session_run.specs.Session.{Streams, IsAnswered, HasReason}
use Rattle.usb_session_run.specs.Checks.{is_check, IsCheck}
use Rattle.usb_session_run.specs.Traces.{is_trace, IsTracing}
use Rattle.usb_trace.specs.declared.check.Verdict.{Verdict}
use Rattle.usb_session.specs.declared.summary.Summary.{Summary}

-- whether the words ask for a session: there are none, or there is `session` alone
abbrev pub is_session : List (List ℕ) → Bool
is_session [] = true
is_session (word ∷ []) = bytes_eq word (codes "session")
is_session (word ∷ next ∷ words) = false

-- whether the words are none that the program knows
abbrev pub is_usage : List (List ℕ) → Bool
is_usage words =
    not (is_session words) && is_none (live_count words) && is_none (generate_count words) && is_none (disk_count words) && not (is_trace words)
    && not (is_check words)

-- the exit status of an error (docs/SCRIPT.md, "Statuses of the program")
abbrev pub error_status : SessionError → ℕ
error_status (Malformed line) = 3
error_status TooLong = 4
error_status ReadFault = 5
error_status WriteFault = 6
error_status Memory = 7

-- the status of an answer, here that of the whole program: its summary, or an error
abbrev pub status_of : {X : Type 0} → Result X SessionError → ℕ
status_of (Ok x) = 0
status_of (Err e) = error_status e

-- the line on standard error that reports it (the line of a call's error is in usb_session_text)
abbrev pub error_line : SessionError → List ℕ
error_line (Malformed line) = codes "nusb_sim: malformed line " ++ (decimal line ++ codes "\n")
error_line TooLong = codes "nusb_sim: script too long\n"
error_line ReadFault = codes "nusb_sim: read fault\n"
error_line WriteFault = codes "nusb_sim: write fault\n"
error_line Memory = codes "nusb_sim: out of memory\n"

-- the line that an answer is reported by, which is empty where it is Ok
abbrev pub report_of : {X : Type 0} → Result X SessionError → List ℕ
report_of (Ok x) = []
report_of (Err e) = error_line e

-- the line for words that ask for nothing that the program has
abbrev pub usage_line : List ℕ
usage_line = codes "usage: nusb_sim [session|generate N|live N|disk N|trace|check]\n"

-- of the sink for reports: the line was written to it, and no write failed; or a prefix of the line, where one write failed
abbrev pub Reports : Option (List ℕ) → Option (List ℕ) → ℕ → ℕ → List ℕ → Type 0
Reports old new before now line = (Appends old new line × (now ≡ before)) ⊎ (RoseByOne before now × WrotePrefix old new line)

-- a session that gave this answer
abbrev pub IsSession : Streams → Streams → Result Summary SessionError → Type 0
IsSession old new (Ok summary) = IsAnswered old new summary
IsSession old new (Err e) = HasReason old new e

-- what the call with words for a session answers, its status, and what the sink for reports got:
-- the bytes that this sink tells (`told`) and its count of faults, before the call and, with a
-- prime, after it
pub record RunsSession (old new : Streams) (told told' : Option (List ℕ)) (faults faults' status : ℕ) : Type 0 where
  pub answer : Result Summary SessionError
  pub session : IsSession old new answer
  pub status_is : status ≡ status_of answer
  pub report : Reports told told' faults faults' (report_of answer)

-- what the call with the words `live N`, `generate N` or `disk N` answers, which writes one line: of the sink, what is reported,
-- and the status
pub record RunsLine (line : List ℕ) (old new : Option (List ℕ)) (before now : ℕ) (told told' : Option (List ℕ)) (faults faults' status : ℕ) : Type 0 where
  pub answer : Result (Unit {0}) SessionError
  pub wrote : WroteLine line old new before now answer
  pub status_is : status ≡ status_of answer
  pub report : Reports told told' faults faults' (report_of answer)

-- what the call with the word `check` answers: of source and sink, what is reported, and the status
pub record RunsCheck (old new : Streams) (told told' : Option (List ℕ)) (faults faults' status : ℕ) : Type 0 where
  pub answer : Result Verdict SessionError
  pub check : IsCheck old new answer
  pub status_is : status ≡ status_of answer
  pub report : Reports told told' faults faults' (report_of answer)

-- what the call with the word `trace` answers: of source and sink, what is reported, and the status
pub record RunsTrace (old new : Streams) (told told' : Option (List ℕ)) (faults faults' status : ℕ) : Type 0 where
  pub answer : Result (Unit {0}) SessionError
  pub trace : IsTracing old new answer
  pub status_is : status ≡ status_of answer
  pub report : Reports told told' faults faults' (report_of answer)
