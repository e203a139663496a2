-- Why a session fails.
use Rattle.std.proofs.Common.{IfOk, IfErr, OnOk, IsErrOf, ◌≡◌, count_by, ℕ, ◌+◌, ◌<◌, ◌≤◌, List, length, Ok, Err, Some, None, ap, sym, ◌∙◌, refl, arith, length-append, ◌⊎◌, inl, inr, Result, ltb, false}
use Rattle.std.specs.declared.option.Option.{Option}
use Rattle.std.specs.Io.KnownBytes.{Consumes, Keeps}
use Rattle.std.proofs.lemmas.Bool.Decides.{nat_tests}
use Rattle.usb_script_lines.specs.declared.item.Item.{Item}
use Rattle.usb_script.specs.declared.error.SessionError.{SessionError}
use Rattle.usb_script.specs.declared.error.SessionError.TheVariants.{Malformed, TooLong, ReadFault, WriteFault, Memory}
use Rattle.usb_script.specs.Parse.{script_of, parse, or_malformed}
use Rattle.usb_script.specs.Outcome.{OrMemory}
use Rattle.usb_session_run.specs.Causes.{Rose, ReadWhole, TookAtMost, TookTooMany, EndsReading}
use Rattle.usb_script_lines.specs.ItemKinds.{is_call}
use Rattle.usb_session.specs.declared.summary.Summary.{Summary}
use Rattle.usb_session.specs.Output.{final_host}
use Rattle.usb_session.proofs.SumLemmas.{one_end_each}
use Rattle.usb_session_run.specs.Session.{Streams, ReadAs, IsAnswered, HasReason, IsSmooth, IsQuiet, IsExact, GaveTooMany, AnswersBytes}
use Rattle.usb_session_run.specs.Traces.{IsTraced, IsUntraced}
use Rattle.usb_session_run.specs.Program.{status_of, error_status}
use Rattle.usb_session_run.proofs.OutsideLemmas.{ReadWhole-known}

long_is_refused : (bytes : List ℕ) → 1048576 < length bytes → script_of bytes ≡ Err TooLong
unfolding script_of
long_is_refused bytes long = grind (arith, nat_tests)

pub took_of_known : (old new : Option (List ℕ)) (bytes taken : List ℕ) → old ≡ Some bytes → Consumes old new taken → length taken ≤ length bytes
took_of_known None new bytes taken e t = cc
took_of_known (Some xs) None bytes taken e t = absurd t
took_of_known (Some xs) (Some ys) bytes taken e t =
    let same : xs ≡ bytes = cc in
    let whole : length xs ≡ length taken + length ys = ap length t ∙ length-append taken ys in
    let long : length xs ≡ length bytes = ap length same in omega arith

pub whole_of_known : (old new : Option (List ℕ)) (bytes read : List ℕ) → old ≡ Some bytes → ReadWhole old new read → bytes ≡ read
whole_of_known None new bytes read e r = cc
whole_of_known (Some xs) new bytes read e r =
    let same : xs ≡ bytes = cc in sym same ∙ ReadWhole-known xs read new r

-- where nothing fails, want of memory is the only error
pub memory_alone : (old new : Streams) (e : SessionError) → HasReason old new e → IsSmooth old new → e ≡ Memory
memory_alone old new (Malformed line) reason smooth =
    let same = whole_of_known old.left new.left smooth.bytes reason.0.bytes smooth.known reason.0.read in
    let here : script_of smooth.bytes ≡ Err (Malformed line) = ap script_of same ∙ reason.0.parsed in
    let valid = smooth.valid in cc
memory_alone old new TooLong reason smooth =
    let less = took_of_known old.left new.left smooth.bytes reason.0.bytes smooth.known reason.0.taken in
    let count = reason.0.count in
    let here : script_of smooth.bytes ≡ Err TooLong = long_is_refused smooth.bytes (omega arith) in
    let valid = smooth.valid in cc
memory_alone old new ReadFault reason smooth = absurd (smooth.reads reason.0)
memory_alone old new WriteFault reason smooth = absurd (smooth.writes reason.0)
memory_alone old new Memory reason smooth = refl

pub Keeps_self : (o : Option (List ℕ)) → Keeps o o
Keeps_self None = tt
Keeps_self (Some xs) = refl

only_malformed : (r : Result (List Item) ℕ) (e : SessionError) → or_malformed r ≡ Err e → (line : ℕ) × (e ≡ Malformed line)
only_malformed (Ok items) e same = cc
only_malformed (Err line) e same = (line, cc)

pub small_is_malformed : (bytes : List ℕ) (e : SessionError) → length bytes < 1048577 → script_of bytes ≡ Err e → (line : ℕ) × (e ≡ Malformed line)
unfolding script_of
small_is_malformed bytes e few same =
    let small : ltb 1048576 (length bytes) ≡ false = grind (arith, nat_tests) in
    only_malformed (parse bytes) e (rw small at same)

-- what was read doesn't parse
pub parsing_reason : (old new : Streams) (e : SessionError) (bytes : List ℕ) → ReadWhole old.left new.left bytes → length bytes < 1048577 → OrMemory {X = List Item} (Err e) (script_of bytes) → Keeps old.written new.written → HasReason old new e
parsing_reason old new (Malformed line) bytes read few parsed kept = (record { bytes = bytes; read = read; parsed = parsed }, kept)
parsing_reason old new TooLong bytes read few parsed kept = let m = small_is_malformed bytes TooLong few parsed in let e = m.1 in cc
parsing_reason old new ReadFault bytes read few parsed kept = let m = small_is_malformed bytes ReadFault few parsed in let e = m.1 in cc
parsing_reason old new WriteFault bytes read few parsed kept = let m = small_is_malformed bytes WriteFault few parsed in let e = m.1 in cc
parsing_reason old new Memory bytes read few parsed kept = inl kept

-- and the source has ended
pub parsing_ends : (X : Type 0) (ended : Type 0) (bytes : List ℕ) (e : SessionError) → ended → length bytes < 1048577 → OrMemory {X = List Item} (Err e) (script_of bytes) → EndsReading {X = X} ended (Err e)
parsing_ends X ended bytes (Malformed line) has few parsed = has
parsing_ends X ended bytes TooLong has few parsed = let m = small_is_malformed bytes TooLong few parsed in let e = m.1 in cc
parsing_ends X ended bytes ReadFault has few parsed = let m = small_is_malformed bytes ReadFault few parsed in let e = m.1 in cc
parsing_ends X ended bytes WriteFault has few parsed = has
parsing_ends X ended bytes Memory has few parsed = tt

-- each ticket of an answered script has one end
pub answered-ends : (old new : Streams) (summary : Summary) → IsAnswered old new summary → summary.taken + summary.dropped + summary.reclaimed ≡ summary.tickets
answered-ends old new summary answered =
    rw answered.summed (one_end_each (count_by is_call answered.items) (final_host answered.items) answered.ended)

-- what a run that reads a script and gave this answer tells of the source
abbrev pub HasRead : {X : Type 0} → Streams → Streams → Result X SessionError → Type 0
HasRead old new (Ok x) = (items : List Item) × ReadAs old new (Ok items)
HasRead old new (Err (Malformed line)) = ReadAs old new (Err (Malformed line))
HasRead old new (Err TooLong) = TookTooMany 1048576 old.left new.left
HasRead old new (Err ReadFault) = Rose old.read_faults new.read_faults
HasRead old new (Err WriteFault) = Rose old.write_faults new.write_faults × ((items : List Item) × ReadAs old new (Ok items))
HasRead old new (Err Memory) = Unit {0}

pub session-read : (old new : Streams) (r : Result Summary SessionError) → IfOk r (IsAnswered old new) → IfErr r (HasReason old new) → HasRead old new r
session-read old new (Ok summary) ok err = (ok.items, ok.script)
session-read old new (Err (Malformed line)) ok err = err.0
session-read old new (Err TooLong) ok err = err.0
session-read old new (Err ReadFault) ok err = err.0
session-read old new (Err WriteFault) ok err = (err.0, (err.1.items, err.1.script))
session-read old new (Err Memory) ok err = tt

pub trace-read : (old new : Streams) (r : Result (Unit {0}) SessionError) → OnOk r (IsTraced old new) → IfErr r (IsUntraced old new) → HasRead old new r
trace-read old new (Ok done) ok err = (ok.items, ok.script)
trace-read old new (Err (Malformed line)) ok err = err.0
trace-read old new (Err TooLong) ok err = err.0
trace-read old new (Err ReadFault) ok err = err.0
trace-read old new (Err WriteFault) ok err = (err.0, (err.1.items, err.1.script))
trace-read old new (Err Memory) ok err = tt

-- what was read to its end is what a source that told its bytes told
parsed-known : (old new : Streams) (bytes : List ℕ) (items : Result (List Item) SessionError) → ReadAs old new items → old.left ≡ Some bytes → script_of bytes ≡ items
parsed-known old new bytes items read known = ap script_of (whole_of_known old.left new.left bytes read.bytes known read.read) ∙ read.parsed

-- where nothing fails, the only errors are the parse's and want of memory
pub exact_of : {X : Type 0} (old new : Streams) (bytes : List ℕ) (r : Result X SessionError) → HasRead old new r → IsQuiet old new bytes → IsExact bytes r
exact_of old new bytes (Ok x) read quiet = (read.0, parsed-known old new bytes (Ok read.0) read.1 quiet.known)
exact_of old new bytes (Err (Malformed line)) read quiet = inr (parsed-known old new bytes (Err (Malformed line)) read quiet.known)
exact_of old new bytes (Err TooLong) read quiet =
    let less = took_of_known old.left new.left bytes read.bytes quiet.known read.taken in
    let count = read.count in
    inr (long_is_refused bytes (omega arith))
exact_of old new bytes (Err ReadFault) read quiet = absurd (quiet.reads read)
exact_of old new bytes (Err WriteFault) read quiet = absurd (quiet.writes read.0)
exact_of old new bytes (Err Memory) read quiet = inl refl

-- the status is then what the bytes parse to, or that of want of memory
pub exact_status : {X : Type 0} (bytes : List ℕ) (r : Result X SessionError) → IsExact bytes r → (status_of r ≡ 7) ⊎ (status_of r ≡ status_of (script_of bytes))
exact_status bytes (Ok x) exact = inr (sym (ap status_of exact.1))
exact_status bytes (Err e) exact = elim exact [ inl is ↦ inl (ap error_status is) | inr is ↦ inr (sym (ap status_of is)) ]

-- what a source that told its bytes gave in a call has one length
pub same_length : (old new : Option (List ℕ)) (known xs ys : List ℕ) → old ≡ Some known → Consumes old new xs → Consumes old new ys → length xs ≡ length ys
same_length None new known xs ys e p q = cc
same_length (Some zs) None known xs ys e p q = absurd p
same_length (Some zs) (Some ws) known xs ys e p q =
    let first : length zs ≡ length xs + length ws = ap length p ∙ length-append xs ws in
    let second : length zs ≡ length ys + length ws = ap length q ∙ length-append ys ws in omega arith

-- what was read to its end and isn't too long is no longer than a script may be
never_full : (old new : Streams) (items : Result (List Item) SessionError) → ReadAs old new items → (items ≡ Err TooLong → ⊥) → GaveTooMany 1048576 old new → ⊥
never_full old new items read other gave =
    let same = same_length old.left new.left gave.bytes read.bytes gave.taken.bytes gave.known read.read.taken gave.taken.taken in
    let count = gave.taken.count in
    other (sym read.parsed ∙ long_is_refused read.bytes (omega arith))

-- nor is what was taken before a read that failed
never_spared : (old new : Streams) → TookAtMost 1048576 old.left new.left → GaveTooMany 1048576 old new → ⊥
never_spared old new took gave =
    let same = same_length old.left new.left gave.bytes took.bytes gave.taken.bytes gave.known took.taken gave.taken.taken in
    let count = gave.taken.count in
    let most = took.count in omega arith

-- the byte past the longest script was taken: the script is too long, or memory was lacking
pub too_many_of : {X : Type 0} (old new : Streams) (r : Result X SessionError) → HasRead old new r → (IsErrOf r ReadFault → TookAtMost 1048576 old.left new.left) → GaveTooMany 1048576 old new → (r ≡ Err TooLong) ⊎ (r ≡ Err Memory)
too_many_of old new (Ok x) read spares gave = absurd (never_full old new (Ok read.0) read.1 (λ e. cc) gave)
too_many_of old new (Err (Malformed line)) read spares gave = absurd (never_full old new (Err (Malformed line)) read (λ e. cc) gave)
too_many_of old new (Err TooLong) read spares gave = inl refl
too_many_of old new (Err ReadFault) read spares gave = absurd (never_spared old new (spares refl) gave)
too_many_of old new (Err WriteFault) read spares gave = absurd (never_full old new (Ok read.1.0) read.1.1 (λ e. cc) gave)
too_many_of old new (Err Memory) read spares gave = inr refl

-- the source was read to its end: the answer is what its bytes parse to, or writing failed, or memory was lacking
pub parsed_of : {X : Type 0} (old new : Streams) (ended : Type 0) (bytes : List ℕ) (r : Result X SessionError) → HasRead old new r → EndsReading ended r → ended → old.left ≡ Some bytes → AnswersBytes bytes r
parsed_of old new ended bytes (Ok x) read ends has known = (read.0, parsed-known old new bytes (Ok read.0) read.1 known)
parsed_of old new ended bytes (Err (Malformed line)) read ends has known = parsed-known old new bytes (Err (Malformed line)) read known
parsed_of old new ended bytes (Err TooLong) read ends has known = absurd (ends has)
parsed_of old new ended bytes (Err ReadFault) read ends has known = absurd (ends has)
parsed_of old new ended bytes (Err WriteFault) read ends has known = (read.1.0, parsed-known old new bytes (Ok read.1.0) read.1.1 known)
parsed_of old new ended bytes (Err Memory) read ends has known = tt

-- the same of statuses
pub ended_status : {X : Type 0} (ended : Type 0) (r : Result X SessionError) → EndsReading ended r → (status_of r ≡ 0) ⊎ (status_of r ≡ 3) ⊎ (status_of r ≡ 6) → ended
ended_status ended (Ok x) ends which = ends
ended_status ended (Err (Malformed line)) ends which = ends
ended_status ended (Err WriteFault) ends which = ends
ended_status ended (Err TooLong) ends which = absurd (omega arith)
ended_status ended (Err ReadFault) ends which = absurd (omega arith)
ended_status ended (Err Memory) ends which = absurd (omega arith)

pub goes_on_status : {X : Type 0} (ended : Type 0) (r : Result X SessionError) → EndsReading ended r → (status_of r ≡ 4) ⊎ (status_of r ≡ 5) → ended → ⊥
goes_on_status ended (Ok x) ends which = absurd (omega arith)
goes_on_status ended (Err (Malformed line)) ends which = absurd (omega arith)
goes_on_status ended (Err WriteFault) ends which = absurd (omega arith)
goes_on_status ended (Err TooLong) ends which = ends
goes_on_status ended (Err ReadFault) ends which = ends
goes_on_status ended (Err Memory) ends which = absurd (omega arith)

pub parsed_status : {X : Type 0} (bytes : List ℕ) (r : Result X SessionError) → AnswersBytes bytes r → (status_of r ≡ status_of (script_of bytes)) ⊎ (status_of r ≡ 6) ⊎ (status_of r ≡ 7)
parsed_status bytes (Ok x) answers = inl (sym (ap status_of answers.1))
parsed_status bytes (Err (Malformed line)) answers = inl (sym (ap status_of answers))
parsed_status bytes (Err TooLong) answers = inl (sym (ap status_of answers))
parsed_status bytes (Err ReadFault) answers = inl (sym (ap status_of answers))
parsed_status bytes (Err WriteFault) answers = inr (inl refl)
parsed_status bytes (Err Memory) answers = inr (inr refl)

pub too_many_status : {X : Type 0} (r : Result X SessionError) → (r ≡ Err TooLong) ⊎ (r ≡ Err Memory) → (status_of r ≡ 4) ⊎ (status_of r ≡ 7)
too_many_status r which = elim which [ inl is ↦ inl (ap status_of is) | inr is ↦ inr (ap status_of is) ]
