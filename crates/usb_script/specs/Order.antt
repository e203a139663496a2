-- Which lines may follow which: the rules that look back.
use Rattle.std.specs.Prelude.{ℕ, ◌==◌, ◌&&◌, ◌||◌, Bool, false, not, List, [], ◌∷◌, ◌++◌, Option, Some, None, if◌then◌else◌}
use Rattle.std.specs.List.{list_all, list_any}
use Rattle.usb_script_lines.specs.declared.item.Item.{Item}
use Rattle.usb_script_lines.specs.declared.item.Item.TheVariants.{Device}
use Rattle.usb_script_lines.specs.declared.reading.Reading.{Reading}
use Rattle.usb_script_lines.specs.declared.reading.Reading.TheVariants.{Skipped, Read}
use Rattle.usb_script_lines.specs.ItemKinds.{is_setup}

-- whether an item is the device line of this name
abbrev pub has_name : ℕ → Item → Bool
has_name name (Device device bus address speed configuration descriptors) = device == name
has_name name item = false

-- whether an item is a device line with this bus and this address
abbrev pub has_bus_address : ℕ → ℕ → Item → Bool
has_bus_address bus address (Device device bus' address' speed configuration descriptors) = bus' == bus && address' == address
has_bus_address bus address item = false

-- whether a device line may stand behind these: no call or step before it, and neither its name nor its bus with its address is taken
unfoldable pub is_free_device : List Item → ℕ → ℕ → ℕ → Bool
is_free_device before device bus address =
    list_all is_setup before && not (list_any (has_name device) before) && not (list_any (has_bus_address bus address) before)

-- whether an item may stand behind these; only setup lines look back
unfoldable pub may_follow : List Item → Item → Bool
may_follow before (Device device bus address speed configuration descriptors) = is_free_device before device bus address
may_follow before item = not (is_setup item) || list_all is_setup before

-- the items with those of one more line, or nothing where it may not stand there
abbrev pub with_reading : List Item → Reading → Option (List Item)
with_reading before Skipped = Some before
with_reading before (Read item) = if may_follow before item then Some (before ++ item ∷ []) else None
