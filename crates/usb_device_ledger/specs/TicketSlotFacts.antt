-- How tickets stand in slots.
use Rattle.std.specs.Prelude.{ℕ, ◌≡◌, ◌-◌, map, length, min, Some, IsSome, slice_get, vec_len, vec_capacity}
use Rattle.std.specs.List.{count_by}
use Rattle.usb_device_ledger.specs.declared.pool.SlotKey.{SlotKey}
use Rattle.usb_device_ledger.specs.declared.place.TicketPlace.TheVariants.{At}
use Rattle.usb_device_ledger.specs.declared.ticket_slots.TicketSlots.TheInside.{Inside}
use Rattle.usb_device_ledger.specs.Pools.{value_of, kept_count}
use Rattle.usb_device_ledger.specs.Places.{TicketsState, is_at, state_in}

abbrev pub tickets_state : Inside → TicketsState
tickets_state s =
    record {
      slots = map (state_in s.pool) s.places.items;
      room = min (vec_capacity s.places - vec_len s.places) s.pool.room;
      slot_count = length s.pool.slots;
    }

-- what stands of a ticket without an end is in the pool, with the ticket's number for a generation,
-- and nothing else is there
pub record IsPlaced (s : Inside) : Type 0 where
  pub standing : (t : ℕ) (k : SlotKey) → slice_get s.places.items t ≡ Some (At k) →
      IsSome (value_of s.pool k) × (k.generation ≡ t)
  pub count : s.pool.count ≡ length s.places.items
  pub kept : kept_count s.pool ≡ count_by is_at s.places.items
