-- Where tickets are.
use Rattle.std.specs.Prelude.{ℕ, Bool, true, false, List, Option, Some, None}
use Rattle.std.specs.Option.{option_map_or}
use Rattle.usb_device_ledger.specs.declared.ends.TicketEnd.{TicketEnd}
use Rattle.usb_device_ledger.specs.declared.ends.TicketEnd.TheVariants.{Taken}
use Rattle.usb_device_ledger.specs.declared.pool.SlotKey.{SlotKey}
use Rattle.usb_device_ledger.specs.declared.standing.Standing.{Standing}
use Rattle.usb_device_ledger.specs.declared.place.TicketPlace.{TicketPlace}
use Rattle.usb_device_ledger.specs.declared.place.TicketPlace.TheVariants.{At, Over}
use Rattle.usb_device_ledger.specs.Pools.{PoolState, value_of}
use Rattle.usb_device_ledger.specs.TicketStates.{TicketState, Ended, state_of}

-- the key of a ticket without an end
abbrev pub place_key : TicketPlace → Option SlotKey
place_key (At key) = Some key
place_key (Over end) = None

-- the end of a ticket that has one
abbrev pub place_end : TicketPlace → Option TicketEnd
place_end (At key) = None
place_end (Over end) = Some end

abbrev pub is_at : TicketPlace → Bool
is_at (At key) = true
is_at (Over end) = false

-- what stands of the ticket of a place. The value of its key is always there
abbrev pub state_in : PoolState Standing → TicketPlace → TicketState
state_in pool (At key) = option_map_or state_of (value_of pool key) (Ended Taken)
state_in pool (Over end) = Ended end

-- tickets in slots. room: how many more tickets there is a place for. slot_count: how many slots
-- there are
pub record TicketsState : Type 0 where
  pub slots : List TicketState
  pub room : ℕ
  pub slot_count : ℕ
