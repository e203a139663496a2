-- What an endpoint holds of a ticket.
use Rattle.std.specs.Prelude.{ℕ, Option, Some, None, option_and_then}
use Rattle.std.specs.Option.{option_map}
use Rattle.usb_desc.specs.declared.types.TransferType.{TransferType}
use Rattle.usb_xfer.specs.declared.transfer.Completion.{Completion}
use Rattle.usb_xfer.specs.declared.transfer.Held.{Held}
use Rattle.usb_xfer.specs.declared.transfer.Held.TheVariants.{Nothing, Complete}
use Rattle.usb_xfer.specs.declared.transfer.TransferData.{TransferData}
use Rattle.usb_kernel.specs.declared.submission.Submitted.{Submitted}
use Rattle.usb_kernel.specs.declared.submission.Submitted.TheVariants.{Queued, Refused}
use Rattle.usb_kernel.specs.TransferCompletions.{completion_of}

-- what an endpoint has of a ticket that it holds: its own key, and the address and the type of the transfer
pub record Hold : Type 0 where
  pub key : ℕ
  pub endpoint : ℕ
  pub kind : TransferType

-- what stands in the transfer (`Held`: usb_xfer/src/transfer.rt) once it was submitted: nothing while the kernel has its buffer. A
-- refused one has its completion at once
abbrev pub held_at_once : Submitted → Held
held_at_once (Queued ticket) = Nothing
held_at_once (Refused done) = Complete (completion_of done)

-- what stands in it before its completion has come, and then
abbrev pub held_of : Option Completion → Held
held_of None = Nothing
held_of (Some c) = Complete c

-- the transfer, once its completion has come
abbrev pub transfer_with : Hold → Completion → TransferData
transfer_with hold c = record { endpoint = hold.endpoint; kind = hold.kind; held = Complete c }

-- the transfer of a ticket that is held, once its completion has come
abbrev pub value_for : Option Completion → Option Hold → Option TransferData
value_for come hold = option_and_then (λ h. option_map (transfer_with h) come) hold
