-- What the status of a check tells of the text that was read.
use Rattle.std.proofs.Common.{IfOk, IfErr, IsErrOf, ◌≡◌, ℕ, ◌≤◌, ◌^◌, List, length, Result, Ok, Err, Some, refl, sym, ap, subst, arith, ◌⊎◌, inl, inr}
use Rattle.std.specs.declared.option.Option.{Option}
use Rattle.usb_script.specs.declared.error.SessionError.{SessionError}
use Rattle.usb_script.specs.declared.error.SessionError.TheVariants.{Malformed, TooLong, ReadFault, WriteFault, Memory}
use Rattle.usb_trace.specs.declared.check.Verdict.{Verdict}
use Rattle.usb_trace.specs.declared.check.Verdict.TheVariants.{Yes, No}
use Rattle.usb_trace.specs.Begins.{IsForm}
use Rattle.usb_trace.specs.Verdicts.{IsTrace}
use Rattle.usb_trace.proofs.Judged.{trace-form, fails-not}
use Rattle.usb_session_run.specs.Causes.{ReadWhole, TookAtMost, EndsReading}
use Rattle.usb_session_run.specs.Session.{Streams, IsQuiet, GaveTooMany}
use Rattle.usb_session_run.specs.Checks.{ReadVerdict, ReadMalformed, IsChecked, IsUnchecked, TellsForm, TellsText, TellsYes}
use Rattle.usb_session_run.specs.Program.{status_of}
use Rattle.usb_session_run.proofs.SessionLemmas.{took_of_known, whole_of_known, same_length}

-- a text that was told before the call is the one that was read, with its verdict
module _ (old new : Option (List ℕ)) (text : List ℕ) (known : old ≡ Some text) where
  pub verdict-form : (v : Verdict) → ReadVerdict old new v → IsForm text
  verdict-form v given = subst IsForm (sym (whole_of_known old new text given.text known given.read)) given.form

  verdict-few : (v : Verdict) → ReadVerdict old new v → length text ≤ 2 ^ 24
  verdict-few v given =
      let same = ap length (whole_of_known old new text given.text known given.read) in
      let few = given.few in omega arith

  pub malformed-form : (line : ℕ) → ReadMalformed old new line → IsForm text → ⊥
  malformed-form line given form =
      let same = whole_of_known old new text given.text known given.read in
      fails-not IsForm given.text line (subst IsForm same form) given.first

  malformed-few : (line : ℕ) → ReadMalformed old new line → length text ≤ 2 ^ 24
  malformed-few line given =
      let same = ap length (whole_of_known old new text given.text known given.read) in
      let few = given.few in omega arith

  -- it isn't told by a line that no trace can have there
  no-refused : (line : ℕ) → ReadVerdict old new (No line) → IsTrace text → ⊥
  no-refused line given trace =
      let same = whole_of_known old new text given.text known given.read in
      fails-not IsTrace given.text line (subst IsTrace same trace) given.right

-- the source was read to its end: the status is by the form of its text, or that of a write fault
pub form_of : (old new : Streams) (ended : Type 0) (text : List ℕ) (r : Result Verdict SessionError) → IfOk r (IsChecked old new) → IfErr r (IsUnchecked old new) → EndsReading ended r → ended → old.left ≡ Some text → TellsForm text (status_of r) ⊎ ((status_of r ≡ 6) × IsForm text)
form_of old new ended text (Ok v) ok err ends has known = inl (inl (refl, verdict-form old.left new.left text known v ok.given))
form_of old new ended text (Err (Malformed line)) ok err ends has known = inl (inr (inl (refl, malformed-form old.left new.left text known line err.0)))
form_of old new ended text (Err TooLong) ok err ends has known = absurd (ends has)
form_of old new ended text (Err ReadFault) ok err ends has known = absurd (ends has)
form_of old new ended text (Err WriteFault) ok err ends has known = inr (refl, verdict-form old.left new.left text known err.1.verdict err.1.given)
form_of old new ended text (Err Memory) ok err ends has known = inl (inr (inr refl))

-- where nothing fails, the status is by the length and the form of the text
pub text_of : (old new : Streams) (text : List ℕ) (r : Result Verdict SessionError) → IfOk r (IsChecked old new) → IfErr r (IsUnchecked old new) → IsQuiet old new text → TellsText text (status_of r)
text_of old new text (Ok v) ok err quiet =
    let few = verdict-few old.left new.left text quiet.known v ok.given in
    record { long = λ long. absurd (omega arith); form = λ _. inl (refl, verdict-form old.left new.left text quiet.known v ok.given) }
text_of old new text (Err (Malformed line)) ok err quiet =
    let few = malformed-few old.left new.left text quiet.known line err.0 in
    record { long = λ long. absurd (omega arith); form = λ _. inr (inl (refl, malformed-form old.left new.left text quiet.known line err.0)) }
text_of old new text (Err TooLong) ok err quiet =
    let less = took_of_known old.left new.left text err.0.bytes quiet.known err.0.taken in
    let count = err.0.count in
    record { long = λ _. inl refl; form = λ few. absurd (omega arith) }
text_of old new text (Err ReadFault) ok err quiet = absurd (quiet.reads err.0)
text_of old new text (Err WriteFault) ok err quiet = absurd (quiet.writes err.0)
text_of old new text (Err Memory) ok err quiet = record { long = λ _. inr refl; form = λ _. inr (inr refl) }

-- and a trace is told so
pub yes_of : (old new : Streams) (text : List ℕ) (r : Result Verdict SessionError) → IfOk r (IsChecked old new) → IfErr r (IsUnchecked old new) → IsQuiet old new text → length text ≤ 2 ^ 24 → IsTrace text → TellsYes old.written new.written (status_of r)
yes_of old new text (Ok Yes) ok err quiet few trace = inl (refl, ok.wrote)
yes_of old new text (Ok (No line)) ok err quiet few trace = absurd (no-refused old.left new.left text quiet.known line ok.given trace)
yes_of old new text (Err (Malformed line)) ok err quiet few trace = absurd (malformed-form old.left new.left text quiet.known line err.0 (trace-form text trace))
yes_of old new text (Err TooLong) ok err quiet few trace =
    let less = took_of_known old.left new.left text err.0.bytes quiet.known err.0.taken in
    let count = err.0.count in absurd (omega arith)
yes_of old new text (Err ReadFault) ok err quiet few trace = absurd (quiet.reads err.0)
yes_of old new text (Err WriteFault) ok err quiet few trace = absurd (quiet.writes err.0)
yes_of old new text (Err Memory) ok err quiet few trace = inr refl

-- what was read to its end and isn't too long is no longer than a text may be
never_full : (old new : Streams) (text : List ℕ) → ReadWhole old.left new.left text → length text ≤ 2 ^ 24 → GaveTooMany 16777216 old new → ⊥
never_full old new text read few gave =
    let same = same_length old.left new.left gave.bytes text gave.taken.bytes gave.known read.taken gave.taken.taken in
    let count = gave.taken.count in omega arith

-- the byte past the longest text was taken: the text is too long, or memory was lacking
pub too_many_of : (old new : Streams) (r : Result Verdict SessionError) → IfOk r (IsChecked old new) → IfErr r (IsUnchecked old new) → (IsErrOf r ReadFault → TookAtMost 16777216 old.left new.left) → GaveTooMany 16777216 old new → (status_of r ≡ 4) ⊎ (status_of r ≡ 7)
too_many_of old new (Ok v) ok err spares gave = absurd (never_full old new ok.given.text ok.given.read ok.given.few gave)
too_many_of old new (Err (Malformed line)) ok err spares gave = absurd (never_full old new err.0.text err.0.read err.0.few gave)
too_many_of old new (Err TooLong) ok err spares gave = inl refl
too_many_of old new (Err ReadFault) ok err spares gave =
    let took = spares refl in
    let same = same_length old.left new.left gave.bytes took.bytes gave.taken.bytes gave.known took.taken gave.taken.taken in
    let count = gave.taken.count in
    let most = took.count in absurd (omega arith)
too_many_of old new (Err WriteFault) ok err spares gave = absurd (never_full old new err.1.given.text err.1.given.read err.1.given.few gave)
too_many_of old new (Err Memory) ok err spares gave = inr refl
