-- What the driver reads, and why it ends. A ticket is a transfer that was submitted; the kernel's
-- journal has the completion of each that was reaped (`transfer_completion`).
use Rattle.std.specs.Prelude.{ℕ, zero, suc, ◌≡◌, ◌+◌, ◌-◌, ◌<◌, List, [], ◌∷◌, ◌++◌, length, Option, Some, None, Err, is_ok, IsOk, IfSome, IsSomeAnd, option_and_then, if◌then◌else◌}
use Rattle.usb_xfer.specs.declared.transfer.Completion.{Completion}
use Rattle.usb_xfer.specs.declared.error.TransferError.TheVariants.{Disconnected}
use Rattle.usb_kernel.specs.declared.event.Event.{Event}
use Rattle.usb_kernel.specs.Tickets.{tickets}
use Rattle.usb_kernel.specs.Extends.{Extends}
use Rattle.usb_kernel.specs.TransferCompletions.{transfer_completion}
use Rattle.usb_device_host.specs.HostState.{HostState}
use Rattle.usb_device_host.specs.HostBus.{turns_left}
use Rattle.example_keyboard.specs.declared.report.Report.{Report}
use Rattle.example_keyboard.specs.declared.end.End.{End}
use Rattle.example_keyboard.specs.declared.end.End.TheVariants.{Unplugged, Failed, Silent}
use Rattle.example_keyboard.specs.Reports.{report_of}

-- the report that a transfer brought: its packet, where it went well
abbrev pub report_in : Completion → Option Report
report_in c = if is_ok c.status then report_of c.buffer.bytes else None

-- that of a ticket, if its completion has come
abbrev pub report_at : List Event → ℕ → Option Report
report_at past t = option_and_then report_in (transfer_completion past t)

abbrev pub listed : Option Report → List Report
listed None = []
listed (Some report) = report ∷ []

-- those of so many tickets from a first one on, in order
abbrev pub reports_from : List Event → ℕ → ℕ → List Report
reports_from past first zero = []
reports_from past first (suc n) = reports_from past first n ++ listed (report_at past (first + n))

-- those of all tickets that came since the old journal, in order
unfoldable pub brought : List Event → List Event → List Report
brought old new =
    reports_from new (length (tickets old)) (length (tickets new) - length (tickets old))

-- the completion of the last ticket, if it has come
abbrev pub last_completion : List Event → Option Completion
last_completion past = transfer_completion past (length (tickets past) - 1)

-- why reading ended: by that completion, or as it has not come
abbrev pub EndsBy : End → Option Completion → Type 0
EndsBy Unplugged last = IsSomeAnd last (λ c. c.status ≡ Err Disconnected)
EndsBy (Failed error) last = IsSomeAnd last (λ c. c.status ≡ Err error)
EndsBy Silent last = last ≡ None

-- one ticket came, and this is its completion, if it has come. Where it went well, a turn was made
pub record BringsOne (old new : HostState) (found : Option Completion) : Type 0 where
  pub past : Extends old.kernel.past new.kernel.past
  pub ticket : length (tickets new.kernel.past) ≡ length (tickets old.kernel.past) + 1
  pub completion :
      transfer_completion new.kernel.past (length (tickets old.kernel.past)) ≡ found
  pub turn : IfSome found (λ c. IsOk c.status → turns_left new < turns_left old)
