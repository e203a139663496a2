-- The lines of completions, of the count of pending transfers, and of the clock.
use Rattle.std.specs.Prelude.{ℕ, List, [], ◌∷◌, codes, Option, Some, None}
use Rattle.std.specs.Fmt.{decimal}
use Rattle.usb_xfer.specs.TransferTexts.{word_of_status}
use Rattle.usb_xfer.specs.declared.transfer.Completion.{Completion}
use Rattle.usb_session_text.specs.Words.{line_of, hex_word}

-- a completion: status, count, requested length and bytes
unfoldable pub done_line : Completion → List ℕ
done_line c =
    line_of (codes "done") (word_of_status c.status ∷ decimal c.actual_len ∷ decimal c.buffer.requested ∷ hex_word c.buffer.bytes ∷ [])

-- what a poll gave
abbrev pub polled_line : Option Completion → List ℕ
polled_line None = line_of (codes "pending") []
polled_line (Some c) = done_line c

-- what a wait gave
abbrev pub waited_line : Option Completion → List ℕ
waited_line None = line_of (codes "none") []
waited_line (Some c) = done_line c

-- how many transfers are pending
unfoldable pub count_line : ℕ → List ℕ
count_line n = line_of (codes "count") (decimal n ∷ [])

-- the clock in nanoseconds
unfoldable pub now_line : ℕ → List ℕ
now_line clock = line_of (codes "now") (decimal clock ∷ [])
