-- The slots in which the tickets without an end stand.
use Rattle.std.specs.Prelude.{ℕ, ◌≡◌, ◌+◌, ◌<◌, ◌==◌, true, false, List, slice_get, if◌then◌else◌}
use Rattle.std.specs.List.{count_by}
use Rattle.std.specs.Option.{option_map_or}
use Rattle.usb_device_ledger.specs.Entries.{HostTicket, is_unended}

-- ticket t is there, and has no end
abbrev pub IsUnended : List HostTicket → ℕ → Type 0
IsUnended tickets t = option_map_or is_unended (slice_get tickets t) false ≡ true

-- how many slots there are once one more ticket has come: one more exactly where each had a ticket
unfoldable pub slots_with : List HostTicket → ℕ → ℕ
slots_with tickets count = if count_by is_unended tickets == count then count + 1 else count

-- each ticket without an end stands in one of these slots, and no two in the same
abbrev pub HaveSlots : List HostTicket → ℕ → Type 0
HaveSlots tickets count =
    (place : ℕ → ℕ)
    × ((t : ℕ) → IsUnended tickets t → place t < count)
    × ((t u : ℕ) → IsUnended tickets t → IsUnended tickets u → place t ≡ place u → t ≡ u)
