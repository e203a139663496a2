-- The slots of the bus over a kernel alone.
use Rattle.std.specs.Prelude.{ℕ, ◌≡◌, List, map, length, Option, Some, None, is_some, slice_get, if◌then◌else◌}
use Rattle.std.specs.Option.{option_map}
use Rattle.usb_xfer.specs.declared.transfer.Completion.{Completion}
use Rattle.usb_xfer.specs.declared.transfer.Held.{Held}
use Rattle.usb_xfer.specs.declared.transfer.Held.TheVariants.{Nothing, Complete}
use Rattle.usb_xfer.specs.declared.transfer.TransferData.{TransferData}
use Rattle.usb_kernel.specs.declared.event.Event.{Event}
use Rattle.usb_kernel.specs.Tickets.{tickets}
use Rattle.usb_device_endpoint.specs.declared.kernel_slots.OwnedTransfer.{OwnedTransfer}
use Rattle.usb_device_endpoint.specs.declared.kernel_bus.KernelBus.TheInside.{Inside}
use Rattle.usb_kernel.specs.TransferCompletions.{transfer_completion}
use Rattle.usb_kernel.specs.Holds.{Hold, held_of}

-- who holds the ticket of a slot
abbrev pub hold_of : OwnedTransfer → Option Hold
hold_of s = option_map (λ k. record { key = k; endpoint = s.transfer.endpoint; kind = s.transfer.kind }) s.owner

abbrev pub holds_of : List OwnedTransfer → List (Option Hold)
holds_of slots = map hold_of slots

-- a transfer that holds this
abbrev pub holding : TransferData → Held → TransferData
holding t held = record t { held = held }

-- a slot whose completion came, which is kept only where an endpoint waits for it
abbrev pub with_completion : OwnedTransfer → Completion → OwnedTransfer
with_completion s c = if is_some s.owner then record s { transfer = holding s.transfer (Complete c) } else s

-- a slot whose ticket has ended
abbrev pub ended_slot : OwnedTransfer → OwnedTransfer
ended_slot s = record { owner = None; transfer = holding s.transfer Nothing }

-- there is a slot for each ticket; that of a ticket that is held has the completion as soon as the ticket is reaped, and others
-- have nothing
pub record Agree (past : List Event) (slots : List OwnedTransfer) : Type 0 where
  pub count : length slots ≡ length (tickets past)
  pub each : (t : ℕ) (s : OwnedTransfer) → slice_get slots t ≡ Some s → s.transfer.held ≡ held_of (if is_some s.owner then transfer_completion past t else None)

-- the slots are what the journal says
pub record IsMatched (h : Inside) : Type 0 where
  pub slots : Agree h.kernel.past h.slots.items
