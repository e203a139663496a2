-- Lines that are read as what they tell.
use Rattle.std.proofs.Common.{◌≡◌, ℕ, ◌<◌, ◌≤◌, ◌^◌, true, List, [], ◌∷◌, decimal, codes, Option, Some, None, IfSome, refl, arith}
use Rattle.std.proofs.lemmas.Bool.Decides.{nat_tests}
use Rattle.usb_kernel_devices.specs.Errnos.{IsErrno}
use Rattle.usb_kernel.specs.declared.event.Event.{Event}
use Rattle.usb_kernel.specs.declared.event.Event.TheVariants.{Submit, Refuse, Packet, Ack, Echo, Fail, Discard, Reap, Unplug}
use Rattle.usb_kernel.specs.declared.event.Body.{Body}
use Rattle.usb_kernel.specs.declared.event.Body.TheVariants.{Wanted, Sent}
use Rattle.usb_script_words.specs.Words.{number_of}
use Rattle.usb_script_words.specs.Fields.{Word, one_word, two_words, three_words, one_field, two_fields, three_fields}
use Rattle.usb_session_text.specs.Words.{line_of, hex_word, two_digits}
use Rattle.usb_trace_lines.specs.declared.reading.SubmittedFields.{SubmittedFields}
use Rattle.usb_trace_lines.specs.Capacities.{without_capacity}
use Rattle.usb_trace_lines.specs.Forms.{IsU8, IsSubmission, GoesWith, IsBodySized, IsTold}
use Rattle.usb_trace_lines.specs.Readings.{body_of_words, goes_with, seven_words, submitted_of, deadline_of_word, submit_line_of, refuse_line_of, event_named}
use Rattle.usb_trace_lines.specs.Texts.{direction_word, body_word, deadline_word, event_text}
use Rattle.usb_trace_lines.proofs.Splits.{IsWord, AreWords}
use Rattle.usb_trace_lines.proofs.WordsRead.{decimal-number, number-no_dash, ticket-read, number-read, errno-read, byte-word, byte-read, bytes-word, bytes-read}

-- ---- the words of a line

abbrev pub submission_words : ℕ → ℕ → ℕ → ℕ → Body → Word → List Word
submission_words t d e m body last =
    decimal t ∷ decimal d ∷ two_digits e ∷ decimal m ∷ direction_word body ∷ body_word body ∷ last ∷ []

-- the first word of an event's line
abbrev pub event_name : Event → Word
event_name (Submit t d e m body room deadline) = codes "submit"
event_name (Refuse t d e m body room errno) = codes "refuse"
event_name (Packet d e bytes) = codes "pkt"
event_name (Ack d e) = codes "ack"
event_name (Echo d o i) = codes "echo"
event_name (Fail d e errno) = codes "fail"
event_name (Discard t) = codes "discard"
event_name (Reap t) = codes "reap"
event_name (Unplug d) = codes "unplug"

-- and the words behind it
abbrev pub event_words : Event → List Word
event_words (Submit t d e m body room deadline) = submission_words t d e m body (deadline_word deadline)
event_words (Refuse t d e m body room errno) = submission_words t d e m body (decimal errno)
event_words (Packet d e bytes) = decimal d ∷ two_digits e ∷ hex_word bytes ∷ []
event_words (Ack d e) = decimal d ∷ two_digits e ∷ []
event_words (Echo d o i) = decimal d ∷ two_digits o ∷ two_digits i ∷ []
event_words (Fail d e errno) = decimal d ∷ two_digits e ∷ decimal errno ∷ []
event_words (Discard t) = decimal t ∷ []
event_words (Reap t) = decimal t ∷ []
event_words (Unplug d) = decimal d ∷ []

pub event-line : (event : Event) → event_text event ≡ line_of (event_name event) (event_words event)
unfolding event_text
event-line (Submit t d e m body room deadline) = refl
event-line (Refuse t d e m body room errno) = refl
event-line (Packet d e bytes) = refl
event-line (Ack d e) = refl
event-line (Echo d o i) = refl
event-line (Fail d e errno) = refl
event-line (Discard t) = refl
event-line (Reap t) = refl
event-line (Unplug d) = refl

-- ---- they are words

number-word : (n : ℕ) → n < 2 ^ 64 → IsWord (decimal n)
number-word n small = (decimal-number n small).word

small-word : (n most : ℕ) → n ≤ most → most < 2 ^ 64 → IsWord (decimal n)
small-word n most within small = number-word n (omega arith)

device-word : (d : ℕ) → IsU8 d → IsWord (decimal d)
device-word d small = number-word d (omega arith)

direction-is : (body : Body) → IsWord (direction_word body)
direction-is (Wanted n) = record { some = refl; visible = refl }
direction-is (Sent bytes) = record { some = refl; visible = refl }

body-is : (e : ℕ) (body : Body) → IsBodySized body → GoesWith e body → IsWord (body_word body)
body-is e (Wanted n) sized goes = small-word n 67582 sized (omega arith)
body-is e (Sent bytes) sized goes = bytes-word bytes goes.1

deadline-is : (deadline : Option ℕ) → IfSome deadline (λ n. n < 2 ^ 64) → IsWord (deadline_word deadline)
deadline-is None small = record { some = refl; visible = refl }
deadline-is (Some n) small = number-word n small

errno-is : (errno : ℕ) → IsErrno errno → IsWord (decimal errno)
errno-is errno is = small-word errno 4095 is.1 (omega arith)

submission-are : (t d e m : ℕ) (body : Body) (last : Word) → IsSubmission t d e m body → IsWord last → AreWords (submission_words t d e m body last)
submission-are t d e m body last s is =
    (number-word t s.ticket, (device-word d s.device, (byte-word e s.endpoint, (small-word m 65536 s.maximum (omega arith), (direction-is body, (body-is e body s.sized s.direction, (is, tt)))))))

pub event-are : (event : Event) → IsTold event → AreWords (event_words event)
event-are (Submit t d e m body room deadline) told = submission-are t d e m body _ told.0 (deadline-is deadline told.1)
event-are (Refuse t d e m body room errno) told = submission-are t d e m body _ told.0 (errno-is errno told.1)
event-are (Packet d e bytes) told = (device-word d told.0, (byte-word e told.1.0, (bytes-word bytes told.1.1.1, tt)))
event-are (Ack d e) told = (device-word d told.0, (byte-word e told.1, tt))
event-are (Echo d o i) told = (device-word d told.0, (byte-word o told.1.0, (byte-word i told.1.1, tt)))
event-are (Fail d e errno) told = (device-word d told.0, (byte-word e told.1.0, (errno-is errno told.1.1, tt)))
event-are (Discard t) told = (number-word t told, tt)
event-are (Reap t) told = (number-word t told, tt)
event-are (Unplug d) told = (device-word d told, tt)

-- ---- what they are read as

device-read : (d : ℕ) → IsU8 d → number_of 255 (decimal d) ≡ Some d
device-read d small = number-read 255 d (omega arith) (omega arith)

body-read : (e : ℕ) (body : Body) → IsBodySized body → GoesWith e body → body_of_words (direction_word body) (body_word body) ≡ Some body
unfolding body_of_words
body-read e (Wanted n) sized goes = let read = number-read 67582 n sized (omega arith) in rw read refl
body-read e (Sent bytes) sized goes = let read = bytes-read 67582 bytes goes.1 sized in rw read refl

goes-read : (e : ℕ) (body : Body) → GoesWith e body → goes_with e body ≡ true
goes-read e (Wanted n) goes = grind (arith, nat_tests)
goes-read e (Sent bytes) goes = let below = goes.0 in grind (arith, nat_tests)

deadline-read : (deadline : Option ℕ) → IfSome deadline (λ n. n < 2 ^ 64) → deadline_of_word (deadline_word deadline) ≡ Some deadline
unfolding deadline_of_word
deadline-read None small = refl
deadline-read (Some n) small =
    let dash = number-no_dash (decimal n) n (decimal-number n small).spells in
    let read = ticket-read n small in
    rw (dash, read) refl

abbrev fields : ℕ → ℕ → ℕ → ℕ → Body → SubmittedFields
fields t d e m body = record { ticket = t; device = d; endpoint = e; maximum = m; body = body }

submission-read : (t d e m : ℕ) (body : Body) (last : Word) → IsSubmission t d e m body → submitted_of (submission_words t d e m body last) ≡ Some (fields t d e m body, last)
unfolding submitted_of seven_words
submission-read t d e m body last s =
    let ticket = ticket-read t s.ticket in
    let device = device-read d s.device in
    let endpoint = byte-read e s.endpoint in
    let maximum = number-read 65536 m s.maximum (omega arith) in
    let read = body-read e body s.sized s.direction in
    let goes = goes-read e body s.direction in
    rw (ticket, device, endpoint, maximum, read, goes) refl

pub event-read : (event : Event) → IsTold event → event_named (event_name event) (event_words event) ≡ Some (without_capacity event)
unfolding event_named submit_line_of refuse_line_of one_field two_fields three_fields one_word two_words three_words
event-read (Submit t d e m body room deadline) told =
    let read = submission-read t d e m body (deadline_word deadline) told.0 in
    let last = deadline-read deadline told.1 in
    rw (read, last) refl
event-read (Refuse t d e m body room errno) told =
    let read = submission-read t d e m body (decimal errno) told.0 in
    let last = errno-read errno told.1.0 told.1.1 in
    rw (read, last) refl
event-read (Packet d e bytes) told =
    let device = device-read d told.0 in
    let endpoint = byte-read e told.1.0 in
    let read = bytes-read 65536 bytes told.1.1.1 told.1.1.0 in
    rw (device, endpoint, read) refl
event-read (Ack d e) told =
    let device = device-read d told.0 in
    let endpoint = byte-read e told.1 in
    rw (device, endpoint) refl
event-read (Echo d o i) told =
    let device = device-read d told.0 in
    let output = byte-read o told.1.0 in
    let input = byte-read i told.1.1 in
    rw (device, output, input) refl
event-read (Fail d e errno) told =
    let device = device-read d told.0 in
    let endpoint = byte-read e told.1.0 in
    let read = errno-read errno told.1.1.0 told.1.1.1 in
    rw (device, endpoint, read) refl
event-read (Discard t) told = let read = ticket-read t told in rw read refl
event-read (Reap t) told = let read = ticket-read t told in rw read refl
event-read (Unplug d) told = let read = device-read d told in rw read refl
