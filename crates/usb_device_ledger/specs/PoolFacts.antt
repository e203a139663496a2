-- How a pool is kept.
use Rattle.std.specs.Prelude.{ℕ, ◌-◌, ◌≤◌, map, reverse, min, Option, vec_len, vec_capacity}
use Rattle.usb_device_ledger.specs.declared.pool.Slot.{Slot}
use Rattle.usb_device_ledger.specs.declared.pool.Pool.TheInside.{Inside}
use Rattle.usb_device_ledger.specs.Pools.{PoolState, AreFree}

module _ {T : Type 0} where
  abbrev pub slot_pair : Slot T → ℕ × Option T
  slot_pair s = (s.generation, s.value)

  abbrev pub pool_state : Inside T → PoolState T
  pool_state p =
      record {
        slots = map slot_pair p.slots.items;
        free = reverse p.free.items;
        count = p.count;
        room = min (vec_capacity p.slots - vec_len p.slots) (vec_capacity p.free - vec_len p.slots);
      }

  -- the free slots are those that are listed, and so there is a place in the list for each slot
  pub record IsKept (p : Inside T) : Type 0 where
    pub free : AreFree (map slot_pair p.slots.items) p.free.items
    pub places : vec_len p.slots ≤ vec_capacity p.free
