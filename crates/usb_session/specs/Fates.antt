-- The fate lines: one for each ticket by number, read from a host.
use Rattle.std.specs.Prelude.{ℕ, zero, suc, List, [], ◌++◌, codes, length, slice_get, Option, Some, None}
use Rattle.usb_kernel.specs.declared.submission.TicketInfo.{TicketInfo}
use Rattle.usb_kernel.specs.Info.{info_of}
use Rattle.usb_device_ledger.specs.declared.ends.TicketEnd.{TicketEnd}
use Rattle.usb_device_ledger.specs.declared.ends.TicketEnd.TheVariants.{Taken, Dropped, Reclaimed}
use Rattle.usb_kernel.specs.Tickets.{tickets}
use Rattle.usb_device_ledger.specs.Entries.{HostTicket, HeldBy, Abandoned, Ended}
use Rattle.usb_device_host.specs.HostState.{HostState}
use Rattle.usb_session_text.specs.Tickets.{ticket_line}

-- the word of an end
abbrev pub end_word : TicketEnd → List ℕ
end_word Taken = codes "taken"
end_word Dropped = codes "dropped"
end_word Reclaimed = codes "reclaimed"

-- how a ticket ended, once it has (what becomes of tickets at a host: `HostTicket`, usb_device_ledger/specs/Entries.antt)
abbrev pub ended_word : Option HostTicket → List ℕ
ended_word None = []
ended_word (Some (HeldBy hold)) = []
ended_word (Some (Abandoned key)) = []
ended_word (Some (Ended end)) = end_word end

-- the line of ticket t, of which this is known, with the word `how` of its end; no line where there
-- is no such ticket
abbrev pub line_if : ℕ → Option TicketInfo → List ℕ → List ℕ
line_if t None how = []
line_if t (Some info) how = ticket_line t info how

-- the fate line of ticket t at a host
unfoldable pub fate_line : HostState → ℕ → List ℕ
fate_line h t = line_if t (info_of h.kernel.past t) (ended_word (slice_get h.tickets t))

-- the lines of n tickets from the number k on
abbrev pub fate_lines_from : HostState → ℕ → ℕ → List ℕ
fate_lines_from h k zero = []
fate_lines_from h k (suc n) = fate_line h k ++ fate_lines_from h (suc k) n

-- those of all its tickets, by number
unfoldable pub fate_lines : HostState → List ℕ
fate_lines h = fate_lines_from h 0 (length (tickets h.kernel.past))
