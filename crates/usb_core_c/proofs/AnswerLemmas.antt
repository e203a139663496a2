-- What a session over a script in memory comes to.
use Rattle.std.proofs.Common.{IfOk, IfErr, ◌≡◌, ℕ, ◌+◌, ◌<◌, ◌≤◌, List, [], ◌++◌, length, Result, Ok, Err, Some, None, ap, sym, ◌∙◌, arith, length-append}
use Rattle.std.specs.declared.option.Option.{Option}
use Rattle.std.specs.Io.KnownBytes.{Consumes, Appends}
use Rattle.std.proofs.lemmas.Bool.Decides.{nat_tests}
use Rattle.usb_script.specs.declared.error.SessionError.{SessionError}
use Rattle.usb_script.specs.declared.error.SessionError.TheVariants.{Malformed, TooLong, ReadFault, WriteFault, Memory}
use Rattle.usb_script.specs.Parse.{script_of}
use Rattle.usb_session.specs.declared.summary.Summary.{Summary}
use Rattle.usb_session_run.specs.Causes.{Rose, ReadWhole}
use Rattle.usb_session_run.specs.Session.{Streams, IsAnswered, HasReason}
use Rattle.usb_session_run.proofs.OutsideLemmas.{ReadWhole-known}
use Rattle.usb_core_c.specs.Answered.{IsAnswer, IsRefusal}

-- what was read to the end of a source that told its bytes are these bytes
whole_of_known : (old new : Option (List ℕ)) (bytes read : List ℕ) → old ≡ Some bytes → ReadWhole old new read → bytes ≡ read
whole_of_known None new bytes read e r = cc
whole_of_known (Some xs) new bytes read e r =
    let same : xs ≡ bytes = cc in sym same ∙ ReadWhole-known xs read new r

-- what was written to an empty sink is all that it has
all_of_empty : (old new : Option (List ℕ)) (bytes whole : List ℕ) → old ≡ Some [] → new ≡ Some bytes → Appends old new whole → bytes ≡ whole
all_of_empty None new bytes whole e f a = cc
all_of_empty (Some xs) None bytes whole e f a = absurd a
all_of_empty (Some xs) (Some ys) bytes whole e f a =
    let empty : xs ≡ [] = cc in
    let same : bytes ≡ ys = cc in same ∙ a ∙ ap (λ front. front ++ whole) empty

-- no more is consumed than a source told
took_of_known : (old new : Option (List ℕ)) (bytes taken : List ℕ) → old ≡ Some bytes → Consumes old new taken → length taken ≤ length bytes
took_of_known None new bytes taken e t = cc
took_of_known (Some xs) None bytes taken e t = absurd t
took_of_known (Some xs) (Some ys) bytes taken e t =
    let same : xs ≡ bytes = cc in
    let whole : length xs ≡ length taken + length ys = ap length t ∙ length-append taken ys in
    let long : length xs ≡ length bytes = ap length same in omega arith

long_is_refused : (bytes : List ℕ) → 1048576 < length bytes → script_of bytes ≡ Err TooLong
unfolding script_of
long_is_refused bytes long = grind (arith, nat_tests)

answer_of : (script bytes : List ℕ) (old new : Streams) (summary : Summary) → old.left ≡ Some script → old.written ≡ Some [] → new.written ≡ Some bytes
    → IsAnswered old new summary → IsAnswer script bytes summary
answer_of script bytes old new summary known empty written answered =
    record {
      items = answered.items;
      valid = ap script_of (whole_of_known old.left new.left script answered.script.bytes known answered.script.read) ∙ answered.script.parsed;
      output_is = all_of_empty old.written new.written bytes _ empty written answered.wrote;
      summed = answered.summed;
      before = old;
      after = new;
      given = known;
      written = written;
      answered = answered;
    }

refusal_of : (script : List ℕ) (old new : Streams) (e : SessionError) → old.left ≡ Some script → (Rose old.read_faults new.read_faults → ⊥)
    → HasReason old new e → IsRefusal script e
refusal_of script old new (Malformed line) known reads reason =
    ap script_of (whole_of_known old.left new.left script reason.0.bytes known reason.0.read) ∙ reason.0.parsed
refusal_of script old new TooLong known reads reason =
    let less = took_of_known old.left new.left script reason.0.bytes known reason.0.taken in
    let count = reason.0.count in
    long_is_refused script (omega arith)
refusal_of script old new ReadFault known reads reason = absurd (reads reason.0)
refusal_of script old new WriteFault known reads reason = tt
refusal_of script old new Memory known reads reason = tt

pub answered_of : (script bytes : List ℕ) (old new : Streams) (r : Result Summary SessionError) → old.left ≡ Some script → old.written ≡ Some [] → new.written ≡ Some bytes
    → IfOk r (IsAnswered old new) → IfOk r (IsAnswer script bytes)
answered_of script bytes old new (Ok summary) known empty written answered = answer_of script bytes old new summary known empty written answered
answered_of script bytes old new (Err e) known empty written answered = tt

pub refused_of : (script : List ℕ) (old new : Streams) (r : Result Summary SessionError) → old.left ≡ Some script → (Rose old.read_faults new.read_faults → ⊥)
    → IfErr r (HasReason old new) → IfErr r (IsRefusal script)
refused_of script old new (Ok summary) known reads reason = tt
refused_of script old new (Err e) known reads reason = refusal_of script old new e known reads reason
