-- The text of a trace. Its lines are words with one space between them and LF at the end (`line_of`: usb_session_text/specs/Words.antt).
use Rattle.std.specs.Prelude.{ℕ, ◌++◌, List, [], ◌∷◌, codes, decimal, reverse, flat_map, Option, Some, None, Result}
use Rattle.usb_xfer.specs.TransferTexts.{word_of_status}
use Rattle.usb_xfer.specs.declared.error.TransferError.{TransferError}
use Rattle.usb_kernel.specs.declared.event.Event.{Event}
use Rattle.usb_kernel.specs.declared.event.Event.TheVariants.{Submit, Refuse, Packet, Ack, Echo, Fail, Discard, Reap, Unplug}
use Rattle.usb_kernel.specs.declared.event.Body.{Body}
use Rattle.usb_kernel.specs.declared.event.Body.TheVariants.{Wanted, Sent}
use Rattle.usb_session_text.specs.Words.{line_of, hex_word, two_digits}
use Rattle.usb_trace_lines.specs.declared.fate_line.FateLine.{FateLine}
use Rattle.usb_trace_lines.specs.declared.line.TraceLine.{TraceLine}
use Rattle.usb_trace_lines.specs.declared.line.TraceLine.TheVariants as line
use Rattle.usb_trace_lines.specs.Fates.{fates_of}

-- a direction, and how many bytes are wanted or which are sent
abbrev pub direction_word : Body → List ℕ
direction_word (Wanted n) = codes "in"
direction_word (Sent bytes) = codes "out"

abbrev pub body_word : Body → List ℕ
body_word (Wanted n) = decimal n
body_word (Sent bytes) = hex_word bytes

-- a deadline, or a dash for none
abbrev pub deadline_word : Option ℕ → List ℕ
deadline_word None = codes "-"
deadline_word (Some deadline) = decimal deadline

-- the line of a submission, refused or not, by its first word and its last. It leaves the capacity of the buffer out
abbrev pub submission_line : List ℕ → ℕ → ℕ → ℕ → ℕ → Body → List ℕ → List ℕ
submission_line name t d e m body last =
    line_of name (decimal t ∷ decimal d ∷ two_digits e ∷ decimal m ∷ direction_word body ∷ body_word body ∷ last ∷ [])

-- the line of an event
unfoldable pub event_text : Event → List ℕ
event_text (Submit t d e m body room deadline) = submission_line (codes "submit") t d e m body (deadline_word deadline)
event_text (Refuse t d e m body room errno) = submission_line (codes "refuse") t d e m body (decimal errno)
event_text (Packet d e bytes) = line_of (codes "pkt") (decimal d ∷ two_digits e ∷ hex_word bytes ∷ [])
event_text (Ack d e) = line_of (codes "ack") (decimal d ∷ two_digits e ∷ [])
event_text (Echo d o i) = line_of (codes "echo") (decimal d ∷ two_digits o ∷ two_digits i ∷ [])
event_text (Fail d e errno) = line_of (codes "fail") (decimal d ∷ two_digits e ∷ decimal errno ∷ [])
event_text (Discard t) = line_of (codes "discard") (decimal t ∷ [])
event_text (Reap t) = line_of (codes "reap") (decimal t ∷ [])
event_text (Unplug d) = line_of (codes "unplug") (decimal d ∷ [])

-- the status of a reaped ticket, and `open` for one that is not reaped
abbrev pub fate_word : Option (Result (Unit {0}) TransferError) → List ℕ
fate_word None = codes "open"
fate_word (Some status) = word_of_status status

-- the line of a fate
unfoldable pub fate_text : FateLine → List ℕ
fate_text f = line_of (codes "fate") (decimal f.ticket ∷ fate_word f.status ∷ decimal f.count ∷ [])

-- the first line and the last
abbrev pub first_line : List ℕ
first_line = codes "nusb-trace 1\n"

abbrev pub last_line : List ℕ
last_line = codes "end\n"

-- the text of a line
abbrev pub line_text : TraceLine → List ℕ
line_text line.First = first_line
line_text (line.Event event) = event_text event
line_text (line.Fate f) = fate_text f
line_text line.Last = last_line

-- a text of the form of a trace: the lines of events, the earliest first, and then those of fates
unfoldable pub trace_text : List Event → List FateLine → List ℕ
trace_text events fates = first_line ++ (flat_map event_text events ++ (flat_map fate_text fates ++ last_line))

-- the trace of a journal, which is read from its latest event
unfoldable pub trace : List Event → List ℕ
trace past = trace_text (reverse past) (fates_of past)
