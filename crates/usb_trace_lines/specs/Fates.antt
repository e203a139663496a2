-- The fates of a journal's tickets, as a trace tells them.
use Rattle.std.specs.Prelude.{ℕ, List, map, Some, None, if◌then◌else◌, unwrap_or}
use Rattle.std.specs.List.{enumerate_from}
use Rattle.usb_xfer.specs.TransferStatus.{status_of}
use Rattle.usb_kernel.specs.declared.event.Event.{Event}
use Rattle.usb_kernel.specs.declared.submission.TicketInfo.{TicketInfo}
use Rattle.usb_kernel.specs.Info.{info_for}
use Rattle.usb_kernel.specs.Journal.{fate}
use Rattle.usb_kernel.specs.Tickets.{tickets}
use Rattle.usb_trace_lines.specs.declared.fate_line.FateLine.{FateLine}

-- the fate of ticket t, of which this is known: the status of its completion where it is reaped, and none where it is not; and how
-- many bytes were received or acknowledged
abbrev pub fate_told : ℕ → TicketInfo → FateLine
fate_told t info =
    record {
      ticket = t;
      status = if info.reaped then Some (status_of info.refused (unwrap_or info.status 0)) else None;
      count = info.count;
    }

-- the fates of a journal's tickets, by number
unfoldable pub fates_of : List Event → List FateLine
fates_of past = map (λ p. fate_told p.0 (info_for p.1 (fate past p.0))) (enumerate_from 0 (tickets past))
