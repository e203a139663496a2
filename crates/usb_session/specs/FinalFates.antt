-- Fate lines that name a final status and an end.
use Rattle.std.specs.Prelude.{ℕ, ◌≡◌, ◌<◌, true, List, length, Some}
use Rattle.usb_kernel.specs.declared.submission.TicketInfo.{TicketInfo}
use Rattle.usb_kernel.specs.Tickets.{tickets}
use Rattle.usb_kernel.specs.Info.{info_of}
use Rattle.usb_device_ledger.specs.declared.ends.TicketEnd.{TicketEnd}
use Rattle.usb_device_host.specs.HostState.{HostState}
use Rattle.usb_device_ledger.specs.EndedTickets.{end_at}
use Rattle.usb_device_host.specs.Finishes.{HasEnds, HasCompletions}
use Rattle.usb_session_text.specs.Tickets.{ticket_line}
use Rattle.usb_script_lines.specs.declared.item.Item.{Item}
use Rattle.usb_session.specs.Fates.{end_word, fate_line, fate_lines, fate_lines_from}
use Rattle.usb_session.specs.Output.{final_host}
use Rattle.usb_session.specs.Sums.{sum_of}

-- the ticket is finished and reaped and has its end, and its line says so
pub record IsFinal (h : HostState) (t : ℕ) : Type 0 where
  pub info : TicketInfo
  pub errno : ℕ
  pub end : TicketEnd
  pub known : info_of h.kernel.past t ≡ Some info
  pub finished : info.status ≡ Some errno
  pub reaped : info.reaped ≡ true
  pub ended : end_at h.tickets t ≡ Some end
  pub line : fate_line h t ≡ ticket_line t info (end_word end)

-- at a host where each ticket has its end and its completion, this is true of each
abbrev pub FatesAreFinal : Type 0
FatesAreFinal =
    (h : HostState) (t : ℕ) → HasEnds h.tickets → HasCompletions h.kernel.past → t < length h.tickets → t < length (tickets h.kernel.past) → IsFinal h t

-- at the end of a script there is one fate line for each ticket of its summary, in order of number, and each names the ticket's final status and its end
pub record HasFinalFates (items : List Item) : Type 0 where
  pub lines : fate_lines (final_host items) ≡ fate_lines_from (final_host items) 0 (sum_of items).tickets
  pub final : (t : ℕ) → t < (sum_of items).tickets → IsFinal (final_host items) t

-- so it is of each script whose tickets have their ends and completions
abbrev pub FatesOfScripts : Type 0
FatesOfScripts = (items : List Item) → HasEnds (final_host items).tickets → HasCompletions (final_host items).kernel.past → HasFinalFates items
