-- What the slots of a bus hold.
use Rattle.std.specs.Prelude.{ℕ, ◌≡◌, List, Option, Some}
use Rattle.std.specs.Option.{option_map}
use Rattle.usb_xfer.specs.declared.transfer.TransferData.{TransferData}
use Rattle.usb_xfer.specs.Transfers.{completion_held}
use Rattle.usb_kernel.specs.declared.event.Event.{Event}
use Rattle.usb_kernel.specs.TransferCompletions.{transfer_completion}

-- the value of a ticket has come exactly where the ticket is reaped, and it holds the completion that the journal gives
abbrev pub HoldsCompletion : List Event → ℕ → Option TransferData → Type 0
HoldsCompletion past t value = option_map (λ (v : TransferData). completion_held v.held) value ≡ option_map Some (transfer_completion past t)
