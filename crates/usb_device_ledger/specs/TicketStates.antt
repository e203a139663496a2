-- What stands of each ticket, with the data of its transfer.
use Rattle.std.specs.Prelude.{ℕ, List, Option, Some, None, slice_get, option_and_then}
use Rattle.usb_xfer.specs.declared.transfer.TransferData.{TransferData}
use Rattle.usb_device_ledger.specs.declared.ends.TicketEnd.{TicketEnd}
use Rattle.usb_device_ledger.specs.declared.standing.Standing.{Standing}
use Rattle.usb_device_ledger.specs.declared.standing.Standing.TheVariants as standing

-- the endpoint of this key holds it, with its transfer; or gave it up before it was reaped; or it
-- has its end
pub data TicketState : Type 0 where
  HeldBy : (key : ℕ) (transfer : TransferData) → TicketState
  Abandoned : (key : ℕ) → TicketState
  Ended : (end : TicketEnd) → TicketState

-- a ticket without an end
abbrev pub state_of : Standing → TicketState
state_of (standing.HeldBy key transfer) = HeldBy key transfer
state_of (standing.Abandoned key) = Abandoned key

-- what stands of a ticket, if it has no end
abbrev pub standing_of : TicketState → Option Standing
standing_of (HeldBy key transfer) = Some (standing.HeldBy key transfer)
standing_of (Abandoned key) = Some (standing.Abandoned key)
standing_of (Ended end) = None

abbrev pub standing_at : List TicketState → ℕ → Option Standing
standing_at slots t = option_and_then standing_of (slice_get slots t)
