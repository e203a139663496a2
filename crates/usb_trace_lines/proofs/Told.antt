-- Lines, told and read.
use Rattle.std.proofs.Common.{◌≡◌, ℕ, ◌<◌, ◌^◌, List, [], ◌∷◌, ◌++◌, codes, decimal, Option, Some, None, IfSome, Result, Ok, Err, refl, sym, ap, ◌∙◌, arith}
use Rattle.std.proofs.lemmas.List.{append_cancel_right}
use Rattle.usb_xfer.specs.declared.error.TransferError.{TransferError}
use Rattle.usb_xfer.specs.declared.error.TransferError.TheVariants.{Cancelled, Stall, Disconnected, Fault, InvalidArgument, Unknown}
use Rattle.usb_xfer.specs.TransferTexts.{error_word}
use Rattle.usb_kernel.specs.declared.event.Event.{Event}
use Rattle.usb_kernel.specs.declared.event.Event.TheVariants.{Submit, Refuse, Packet, Ack, Echo, Fail, Discard, Reap, Unplug}
use Rattle.usb_script_words.specs.Fields.{Word, one_word, no_word, three_words, three_fields}
use Rattle.usb_script_words.specs.Lines.{words_of}
use Rattle.usb_script_words.specs.Outcome.{Gives}
use Rattle.usb_script_words.specs.declared.line_error.LineError.{LineError}
use Rattle.usb_script_words.specs.declared.line_error.LineError.TheVariants.{Malformed, Memory}
use Rattle.usb_session_text.specs.Words.{spaced, line_of}
use Rattle.usb_trace_lines.specs.declared.fate_line.FateLine.{FateLine}
use Rattle.usb_trace_lines.specs.declared.line.TraceLine.{TraceLine}
use Rattle.usb_trace_lines.specs.declared.line.TraceLine.TheVariants as line
use Rattle.usb_trace_lines.specs.Capacities.{without_capacity}
use Rattle.usb_trace_lines.specs.Forms.{IsStatus, IsFateTold, IsLineTold}
use Rattle.usb_trace_lines.specs.Readings.{error_of_word, status_of_word, line_named, line_of_words, fate_made, long_number_of, length_of}
use Rattle.usb_trace_lines.specs.Texts.{fate_word, event_text, fate_text, line_text}
use Rattle.usb_trace_lines.proofs.LinesRead.{event_name, event_words, event-line, event-are, event-read}
use Rattle.usb_trace_lines.proofs.Splits.{IsWord, AreWords, words-spaced, line-spaced}
use Rattle.usb_trace_lines.proofs.WordsRead.{decimal-number, ticket-read, number-read, errno-read}

-- ---- fates

error-is : (e : TransferError) → IsStatus (Err e) → IsWord (error_word e)
error-is Cancelled is = record { some = refl; visible = refl }
error-is Stall is = record { some = refl; visible = refl }
error-is Disconnected is = record { some = refl; visible = refl }
error-is Fault is = record { some = refl; visible = refl }
error-is InvalidArgument is = record { some = refl; visible = refl }
error-is (Unknown n) is =
    let small : n < 2 ^ 64 = omega (arith, is.1) in
    let visible = (decimal-number n small).word.visible in
    record { some = refl; visible = rw visible refl }

status-is : (status : Option (Result (Unit {0}) TransferError)) → IfSome status IsStatus → IsWord (fate_word status)
status-is None is = record { some = refl; visible = refl }
status-is (Some (Ok x)) is = record { some = refl; visible = refl }
status-is (Some (Err e)) is = error-is e is

fate-are : (f : FateLine) → IsFateTold f → AreWords (decimal f.ticket ∷ fate_word f.status ∷ decimal f.count ∷ [])
fate-are f told =
    let count : f.count < 2 ^ 64 = omega (arith, told.count) in
    ((decimal-number f.ticket told.ticket).word, (status-is f.status told.status, ((decimal-number f.count count).word, tt)))

error-read : (e : TransferError) → IsStatus (Err e) → error_of_word (error_word e) ≡ Some e
unfolding error_of_word
error-read Cancelled is = refl
error-read Stall is = refl
error-read Disconnected is = refl
error-read Fault is = refl
error-read InvalidArgument is = refl
error-read (Unknown n) is = let read = errno-read n is.0 is.1 in rw read refl

status-read : (status : Option (Result (Unit {0}) TransferError)) → IfSome status IsStatus → status_of_word (fate_word status) ≡ Some status
unfolding status_of_word
status-read None is = refl
status-read (Some (Ok tt)) is = refl
status-read (Some (Err Cancelled)) is = let read = error-read Cancelled is in rw read refl
status-read (Some (Err Stall)) is = let read = error-read Stall is in rw read refl
status-read (Some (Err Disconnected)) is = let read = error-read Disconnected is in rw read refl
status-read (Some (Err Fault)) is = let read = error-read Fault is in rw read refl
status-read (Some (Err InvalidArgument)) is = let read = error-read InvalidArgument is in rw read refl
status-read (Some (Err (Unknown n))) is = let read = error-read (Unknown n) is in rw read refl

-- ---- lines

-- a line whose event's capacity is not told
abbrev pub bare_line : TraceLine → TraceLine
bare_line (line.Event event) = line.Event (without_capacity event)
bare_line told = told

-- the first word of a line, and those behind it
abbrev pub name_of : TraceLine → Word
name_of line.First = codes "nusb-trace"
name_of (line.Event event) = event_name event
name_of (line.Fate f) = codes "fate"
name_of line.Last = codes "end"

abbrev pub words_behind : TraceLine → List Word
words_behind line.First = codes "1" ∷ []
words_behind (line.Event event) = event_words event
words_behind (line.Fate f) = decimal f.ticket ∷ fate_word f.status ∷ decimal f.count ∷ []
words_behind line.Last = []

pub text-is : (x : TraceLine) → line_text x ≡ line_of (name_of x) (words_behind x)
unfolding fate_text
text-is line.First = refl
text-is (line.Event event) = event-line event
text-is (line.Fate f) = refl
text-is line.Last = refl

name-is : (event : Event) → IsWord (event_name event)
name-is (Submit t d e m body room deadline) = record { some = refl; visible = refl }
name-is (Refuse t d e m body room errno) = record { some = refl; visible = refl }
name-is (Packet d e bytes) = record { some = refl; visible = refl }
name-is (Ack d e) = record { some = refl; visible = refl }
name-is (Echo d o i) = record { some = refl; visible = refl }
name-is (Fail d e errno) = record { some = refl; visible = refl }
name-is (Discard t) = record { some = refl; visible = refl }
name-is (Reap t) = record { some = refl; visible = refl }
name-is (Unplug d) = record { some = refl; visible = refl }

pub line-are : (x : TraceLine) → IsLineTold x → AreWords (name_of x ∷ words_behind x)
line-are line.First told = (record { some = refl; visible = refl }, (record { some = refl; visible = refl }, tt))
line-are (line.Event event) told = (name-is event, event-are event told)
line-are (line.Fate f) told = (record { some = refl; visible = refl }, fate-are f told)
line-are line.Last told = (record { some = refl; visible = refl }, tt)

-- the first word of an event's line is that of no other line
named : (event : Event) (read : Event) → Rattle.usb_trace_lines.specs.Readings.event_named (event_name event) (event_words event) ≡ Some read → line_named (event_name event) (event_words event) ≡ Some (line.Event read)
unfolding line_named
named (Submit t d e m body room deadline) read is = rw is refl
named (Refuse t d e m body room errno) read is = rw is refl
named (Packet d e bytes) read is = rw is refl
named (Ack d e) read is = rw is refl
named (Echo d o i) read is = rw is refl
named (Fail d e errno) read is = rw is refl
named (Discard t) read is = rw is refl
named (Reap t) read is = rw is refl
named (Unplug d) read is = rw is refl

line-read : (x : TraceLine) → IsLineTold x → line_named (name_of x) (words_behind x) ≡ Some (bare_line x)
unfolding line_named one_word no_word three_fields three_words
line-read line.First told = refl
line-read (line.Event event) told = named event (without_capacity event) (event-read event told)
line-read (line.Fate f) told =
    let ticket = ticket-read f.ticket told.ticket in
    let status = status-read f.status told.status in
    let count = number-read 67582 f.count told.count (omega arith) in
    rw (ticket, status, count) refl
line-read line.Last told = refl

-- ---- what a line tells is read

-- a line without its LF is its words with one space between them
pub told-read : (x : TraceLine) (text : List ℕ) → IsLineTold x → text ++ 10 ∷ [] ≡ line_text x → line_of_words (words_of text) ≡ Some (bare_line x)
unfolding line_of_words
told-read x text told is =
    let whole : text ++ 10 ∷ [] ≡ spaced (name_of x) (words_behind x) ++ 10 ∷ [] = is ∙ text-is x ∙ line-spaced (name_of x) (words_behind x) in
    let same : text ≡ spaced (name_of x) (words_behind x) = append_cancel_right text _ (10 ∷ []) whole in
    let are = line-are x told in
    ap (λ (l : List ℕ). line_of_words (words_of l)) same
    ∙ ap line_of_words (words-spaced (name_of x) (words_behind x) are.0 are.1)
    ∙ line-read x told

some-same : {A : Type 0} (a b : A) → Some a ≡ Some b → a ≡ b
some-same a b is = cc

-- two lines with one text tell the same, capacities aside
pub told-same : (x y : TraceLine) → IsLineTold x → IsLineTold y → line_text x ≡ line_text y → bare_line x ≡ bare_line y
told-same x y told tells is =
    let text = spaced (name_of x) (words_behind x) in
    let mine : text ++ 10 ∷ [] ≡ line_text x = sym (text-is x ∙ line-spaced (name_of x) (words_behind x)) in
    some-same (bare_line x) (bare_line y) (sym (told-read x text told mine) ∙ told-read y text tells (mine ∙ is))

text-bare : (x : TraceLine) → line_text (bare_line x) ≡ line_text x
unfolding event_text
text-bare line.First = refl
text-bare (line.Event (Submit t d e m body room deadline)) = refl
text-bare (line.Event (Refuse t d e m body room errno)) = refl
text-bare (line.Event (Packet d e bytes)) = refl
text-bare (line.Event (Ack d e)) = refl
text-bare (line.Event (Echo d o i)) = refl
text-bare (line.Event (Fail d e errno)) = refl
text-bare (line.Event (Discard t)) = refl
text-bare (line.Event (Reap t)) = refl
text-bare (line.Event (Unplug d)) = refl
text-bare (line.Fate f) = refl
text-bare line.Last = refl

-- no line has a text that is not read
pub never-told : (text : List ℕ) → line_of_words (words_of text) ≡ None → (x : TraceLine) → IsLineTold x → text ++ 10 ∷ [] ≡ line_text x → ⊥
never-told text none x told is = let read = told-read x text told is in let h = sym none ∙ read in cc

-- nor one that is read as a line with another text
pub other-told : (text : List ℕ) (y : TraceLine) → line_of_words (words_of text) ≡ Some y → (text ++ 10 ∷ [] ≡ line_text y → ⊥) → (x : TraceLine) → IsLineTold x → text ++ 10 ∷ [] ≡ line_text x → ⊥
other-told text y read other x told is =
    let same : y ≡ bare_line x = some-same y (bare_line x) (sym read ∙ told-read x text told is) in
    other (is ∙ sym (text-bare x) ∙ ap line_text (sym same))

-- a reading that finds a word outside the form
pub gives-none : (e : LineError) (o : Option TraceLine) → Gives (λ (l : TraceLine). l) (Err e) o → e ≡ Malformed → o ≡ None
gives-none Malformed o gives is = gives
gives-none Memory o gives is = absurd (let h = is in cc)
