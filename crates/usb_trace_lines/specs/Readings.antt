-- What the words of a line are read as, whether or not they are written as that is written.
use Rattle.std.specs.Prelude.{ℕ, Bool, nat_le, not, List, [], ◌∷◌, length, take, drop, codes, Option, Some, None, Result, Ok, Err, if◌then◌else◌}
use Rattle.std.specs.Str.{bytes_eq}
use Rattle.hex.specs.Hex.{decode_of}
use Rattle.usb_xfer.specs.declared.error.TransferError.{TransferError}
use Rattle.usb_xfer.specs.declared.error.TransferError.TheVariants.{Cancelled, Stall, Disconnected, Fault, InvalidArgument, Unknown}
use Rattle.usb_kernel.specs.declared.event.Event.{Event}
use Rattle.usb_kernel.specs.declared.event.Event.TheVariants.{Submit, Refuse, Packet, Ack, Echo, Fail, Discard, Reap, Unplug}
use Rattle.usb_kernel.specs.declared.event.Body.{Body}
use Rattle.usb_kernel.specs.declared.event.Body.TheVariants.{Wanted, Sent}
use Rattle.usb_script_words.specs.Fields.{Word, one_word, none, one, two, three}
use Rattle.usb_script_words.specs.Words.{◌>>=◌, digits_after, at_most, number_of, hex_byte_of, or_none, at_most_bytes, errno_of}
use Rattle.usb_trace_lines.specs.declared.fate_line.FateLine.{FateLine}
use Rattle.usb_trace_lines.specs.declared.line.TraceLine.{TraceLine}
use Rattle.usb_trace_lines.specs.declared.reading.SubmittedFields.{SubmittedFields}
use Rattle.usb_trace_lines.specs.declared.line.TraceLine.TheVariants as line

-- a number of 64 bits, of at most 20 decimal digits: that of a ticket, or a deadline
unfoldable pub long_number_of : Word → Option ℕ
long_number_of word = if nat_le (length word) 20 then (digits_after 0 word >>= at_most 18446744073709551615) else None

abbrev pub device_number_of : Word → Option ℕ
device_number_of word = number_of 255 word

abbrev pub length_of : Word → Option ℕ
length_of word = number_of 67582 word

-- bytes as hexadecimal digits, or a dash for none, at most so many bytes
unfoldable pub bytes_within : ℕ → Word → Option (List ℕ)
bytes_within most word =
    if bytes_eq word (codes "-") then Some [] else (or_none (decode_of word) >>= at_most_bytes most)

-- a direction, and how many bytes are wanted or which are sent
unfoldable pub body_of_words : Word → Word → Option Body
body_of_words direction word =
    if bytes_eq direction (codes "in") then (do
      n ← length_of word
      Some (Wanted n))
    else if bytes_eq direction (codes "out") then (do
      bytes ← bytes_within 67582 word
      Some (Sent bytes))
    else None

-- a body goes with the direction of its endpoint
abbrev pub goes_with : ℕ → Body → Bool
goes_with e (Wanted n) = nat_le 128 e
goes_with e (Sent bytes) = not (nat_le 128 e)

-- seven words and no more
unfoldable pub seven_words : List Word → Option (Word × Word × Word × Word × Word × Word × Word)
seven_words (a ∷ b ∷ c ∷ d ∷ e ∷ f ∷ g ∷ []) = Some (a, b, c, d, e, f, g)
seven_words words = None

-- the words that a submission and a refusal share, and the last word, which they do not
unfoldable pub submitted_of : List Word → Option (SubmittedFields × Word)
submitted_of words = do
  w ← seven_words words
  t ← long_number_of w.0
  device ← device_number_of w.1
  endpoint ← hex_byte_of w.2
  maximum ← number_of 65536 w.3
  body ← body_of_words w.4 w.5
  if goes_with endpoint body then Some (record { ticket = t; device = device; endpoint = endpoint; maximum = maximum; body = body }, w.6) else None

-- a deadline, or a dash for none
unfoldable pub deadline_of_word : Word → Option (Option ℕ)
deadline_of_word word = if bytes_eq word (codes "-") then Some None else (long_number_of word >>= λ n. Some (Some n))

-- the event of a submission. Its buffer's capacity isn't told
abbrev pub submit_of : SubmittedFields → Option ℕ → Event
submit_of s deadline = Submit s.ticket s.device s.endpoint s.maximum s.body 0 deadline

abbrev pub refuse_of : SubmittedFields → ℕ → Event
refuse_of s errno = Refuse s.ticket s.device s.endpoint s.maximum s.body 0 errno

unfoldable pub submit_line_of : List Word → Option Event
submit_line_of words = do
  s ← submitted_of words
  deadline ← deadline_of_word s.1
  Some (submit_of s.0 deadline)

unfoldable pub refuse_line_of : List Word → Option Event
refuse_line_of words = do
  s ← submitted_of words
  errno ← errno_of s.1
  Some (refuse_of s.0 errno)

-- the event with this first word
unfoldable pub event_named : Word → List Word → Option Event
event_named name words =
    if bytes_eq name (codes "submit") then submit_line_of words
    else if bytes_eq name (codes "refuse") then refuse_line_of words
    else if bytes_eq name (codes "pkt") then three Packet device_number_of hex_byte_of (bytes_within 65536) words
    else if bytes_eq name (codes "ack") then two Ack device_number_of hex_byte_of words
    else if bytes_eq name (codes "echo") then three Echo device_number_of hex_byte_of hex_byte_of words
    else if bytes_eq name (codes "fail") then three Fail device_number_of hex_byte_of errno_of words
    else if bytes_eq name (codes "discard") then one Discard long_number_of words
    else if bytes_eq name (codes "reap") then one Reap long_number_of words
    else if bytes_eq name (codes "unplug") then one Unplug device_number_of words
    else None

-- the status of a fate: `open`, `ok`, or that of a transfer that failed
unfoldable pub error_of_word : Word → Option TransferError
error_of_word word =
    if bytes_eq word (codes "cancelled") then Some Cancelled
    else if bytes_eq word (codes "stall") then Some Stall
    else if bytes_eq word (codes "disconnected") then Some Disconnected
    else if bytes_eq word (codes "fault") then Some Fault
    else if bytes_eq word (codes "invalid") then Some InvalidArgument
    else if bytes_eq (take 8 word) (codes "unknown:") then (errno_of (drop 8 word) >>= λ errno. Some (Unknown errno))
    else None

unfoldable pub status_of_word : Word → Option (Option (Result (Unit {0}) TransferError))
status_of_word word =
    if bytes_eq word (codes "open") then Some None
    else if bytes_eq word (codes "ok") then Some (Some (Ok tt))
    else (error_of_word word >>= λ e. Some (Some (Err e)))

abbrev pub fate_made : ℕ → Option (Result (Unit {0}) TransferError) → ℕ → FateLine
fate_made t status count = record { ticket = t; status = status; count = count }

-- the line of these words
unfoldable pub line_named : Word → List Word → Option TraceLine
line_named name words =
    if bytes_eq name (codes "nusb-trace") then (one_word words >>= λ version. if bytes_eq version (codes "1") then Some line.First else None)
    else if bytes_eq name (codes "end") then none line.Last words
    else if bytes_eq name (codes "fate") then (three fate_made long_number_of status_of_word length_of words >>= λ f. Some (line.Fate f))
    else (event_named name words >>= λ e. Some (line.Event e))

unfoldable pub line_of_words : List Word → Option TraceLine
line_of_words [] = None
line_of_words (name ∷ words) = line_named name words
