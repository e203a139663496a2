-- Listing devices and root hubs, and asking for one device.
use Rattle.std.specs.Prelude.{ℕ, ◌==◌, ◌&&◌, ◌||◌, Bool, nat_le, nat_eq, List, codes, Option, Some, None, Result, Ok, Err, if◌then◌else◌}
use Rattle.std.specs.List.{filter_map, list_all, find, starts_with}
use Rattle.std.specs.Result.{result_ok}
use Rattle.usb_error.specs.ErrorState.{ErrorState}
use Rattle.usb_error.specs.Errors.{listing_error}
use Rattle.usb_enum.specs.Devices.{DeviceFacts}
use Rattle.usb_error.specs.Outcomes.{◌>>=◌}
use Rattle.usb_enum.specs.Probing.{probe}
use Rattle.usb_enum.specs.Selectors.{SelectorFacts, matches_any}
use Rattle.usb_enum_sysfs.specs.Tree.{Tree}
use Rattle.usb_enum.specs.declared.enumeration.Kind.{Kind}
use Rattle.usb_enum.specs.declared.enumeration.Kind.TheVariants.{Devices, RootHubs}

-- a digit, a dash or a dot
abbrev pub is_device_byte : ℕ → Bool
is_device_byte b = (nat_le 48 b && nat_le b 57) || b == 45 || b == 46

-- the names of devices have such bytes alone, and those of root hubs begin with `usb`
abbrev pub is_named : Kind → List ℕ → Bool
is_named Devices name = list_all is_device_byte name
is_named RootHubs name = starts_with nat_eq name (codes "usb")

-- the device to which an entry of the listing leads, where its name is of this kind and probing it succeeds
abbrev pub device_at : Kind → Tree → List ℕ × List ℕ → Option DeviceFacts
device_at kind t entry = if is_named kind entry.0 then result_ok (probe t entry.1) else None

-- the devices of a listing, in the order of its entries, or why there is none
abbrev pub listed : Kind → Tree → Option ℕ → Result (List DeviceFacts) ErrorState
listed kind t (Some errno) = Err (listing_error errno)
listed kind t None = Ok (filter_map (device_at kind t) t.entries)

abbrev pub devices : Tree → Result (List DeviceFacts) ErrorState
devices t = listed Devices t t.refusal

abbrev pub root_hubs : Tree → Result (List DeviceFacts) ErrorState
root_hubs t = listed RootHubs t t.refusal

-- the first device that one of the selectors matches
abbrev pub requested : Tree → List SelectorFacts → Result (Option DeviceFacts) ErrorState
requested t selectors = do
  found ← devices t
  Ok (find (matches_any selectors) found)
