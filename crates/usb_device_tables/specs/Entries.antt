-- The entries of a slab, and the values that they tell.
use Rattle.std.specs.Prelude.{ℕ, ◌≡◌, ◌<◌, ◌==◌, List, [], ◌∷◌, Option, Some, None, slice_get, slice_index_or, if◌then◌else◌}
use Rattle.usb_device_tables.specs.History.{values_below}
use Rattle.usb_device_tables.specs.declared.entry.Entry.{Entry}

module _ {T : Type 0} where
  -- the value of the entry with a serial number
  abbrev pub find_serial : List (Option (Entry T)) → ℕ → Option T
  find_serial [] serial = None
  find_serial (None ∷ rest) serial = find_serial rest serial
  find_serial (Some entry ∷ rest) serial = if entry.serial == serial then Some entry.value else find_serial rest serial

  -- the values of the first serial numbers
  abbrev pub history : List (Option (Entry T)) → ℕ → List (Option T)
  history slots next = values_below (find_serial slots) next

  -- there is an entry at a place
  abbrev pub IsAt : List (Option (Entry T)) → ℕ → Entry T → Type 0
  IsAt slots place entry = slice_index_or slots place None ≡ Some entry

  -- the entry at a place has a serial number
  pub record HasSerialAt (slots : List (Option (Entry T))) (serial place : ℕ) : Type 0 where
    pub entry : Entry T
    pub at : IsAt slots place entry
    pub serial_is : entry.serial ≡ serial

  -- each entry has a serial number below the next, and no two have one
  pub record IsSound (slots : List (Option (Entry T))) (next : ℕ) : Type 0 where
    pub below : (place : ℕ) (entry : Entry T) → IsAt slots place entry → entry.serial < next
    pub apart : (j k : ℕ) (e f : Entry T) → IsAt slots j e → IsAt slots k f → e.serial ≡ f.serial → j ≡ k

  -- each entry is at the place that is listed for its serial number
  abbrev pub IsPlaced : List (Option (Entry T)) → List ℕ → Type 0
  IsPlaced slots places =
      (place : ℕ) (entry : Entry T) → IsAt slots place entry
      → slice_get places entry.serial ≡ Some place
