-- The completion of a transfer, as the caller of its endpoint gets it.
use Rattle.std.specs.Prelude.{ℕ, ◌≡◌, List, length, Option}
use Rattle.std.specs.Option.{option_map}
use Rattle.usb_xfer.specs.declared.transfer.Completion.{Completion}
use Rattle.usb_xfer.specs.TransferStatus.{status_of}
use Rattle.usb_kernel.specs.declared.event.Event.{Event}
use Rattle.usb_kernel.specs.declared.submission.Done.{Done}
use Rattle.usb_kernel.specs.Tickets.{tickets}
use Rattle.usb_kernel.specs.Completions.{completion, completed}

-- a kernel's completion as a transfer's
abbrev pub completion_of : Done → Completion
completion_of done = record { buffer = done.buffer; actual_len = done.count; status = status_of done.refused done.status }

-- that of a ticket in a journal, where the ticket is reaped
unfoldable pub transfer_completion : List Event → ℕ → Option Completion
transfer_completion past t = option_map completion_of (completion past t)

-- the tickets are the same, and no other completion came than this one
pub record CompletesOnly (old new : List Event) (came : Option Done) : Type 0 where
  pub count : length (tickets new) ≡ length (tickets old)
  pub each : (t : ℕ) → completion new t ≡ completed came (completion old) t
