-- The lines of what readers give: bytes, and ends of messages.
use Rattle.std.specs.Prelude.{ℕ, Bool, true, false, List, [], ◌∷◌, length, codes, Result, Ok, Err}
use Rattle.std.specs.Fmt.{decimal}
use Rattle.usb_io.specs.declared.until_short.ExpectedShortPacket.{ExpectedShortPacket}
use Rattle.usb_io.specs.StreamFaults.{expected_text}
use Rattle.usb_session_text.specs.Calls.{ok_line}
use Rattle.usb_session_text.specs.Words.{line_of, hex_word}

-- the bytes that a read took: how many, and which
unfoldable pub read_line : List ℕ → List ℕ
read_line bytes = line_of (codes "read") (decimal (length bytes) ∷ hex_word bytes ∷ [])

-- the bytes that stand: how many, and which
unfoldable pub buffer_line : List ℕ → List ℕ
buffer_line bytes = line_of (codes "buf") (decimal (length bytes) ∷ hex_word bytes ∷ [])

-- whether the end of a message is next
abbrev pub is_end_line : Bool → List ℕ
is_end_line true = line_of (codes "end") (codes "true" ∷ [])
is_end_line false = line_of (codes "end") (codes "false" ∷ [])

-- the end of a message was taken off, or none was next
abbrev pub consumed_end_line : Result (Unit {0}) ExpectedShortPacket → List ℕ
consumed_end_line (Ok done) = ok_line
consumed_end_line (Err error) = line_of expected_text []
