-- The fate line of a ticket.
use Rattle.std.specs.Prelude.{ℕ, List, [], ◌∷◌, ◌++◌, codes, unwrap_or}
use Rattle.std.specs.Fmt.{decimal}
use Rattle.usb_xfer.specs.TransferTexts.{status_word}
use Rattle.usb_kernel.specs.declared.submission.TicketInfo.{TicketInfo}
use Rattle.usb_session_text.specs.Words.{line_of, hex_word}

-- the name of a simulated device: `k` and its number
abbrev pub device_word : ℕ → List ℕ
device_word device = codes "k" ++ decimal device

-- a status and a count
abbrev pub status_words : TicketInfo → List ℕ
status_words info = status_word info.refused (unwrap_or info.status 0) ++ 32 ∷ decimal info.count

-- the fate of a ticket: number, device, endpoint, status, count and the word of its end (`how`)
unfoldable pub ticket_line : ℕ → TicketInfo → List ℕ → List ℕ
ticket_line t info how =
    line_of (codes "ticket") (decimal t ∷ device_word info.device ∷ hex_word (info.endpoint ∷ []) ∷ status_words info ∷ how ∷ [])
