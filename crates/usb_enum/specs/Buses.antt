-- Buses, by their root hubs.
use Rattle.std.specs.Prelude.{ℕ, List, codes, Option, Some, Result, Ok}
use Rattle.std.specs.List.{filter_map}
use Rattle.std.specs.Map.{lookup}
use Rattle.std.specs.Option.{option_and_then}
use Rattle.std.specs.Path.{path_parent, path_file_name}
use Rattle.std.specs.Str.{bytes_eq}
use Rattle.usb_error.specs.ErrorState.{ErrorState}
use Rattle.usb_enum.specs.Controllers.{controller_of}
use Rattle.usb_enum.specs.Devices.{DeviceFacts}
use Rattle.usb_enum.specs.Listing.{root_hubs}
use Rattle.usb_error.specs.Outcomes.{◌>>=◌}
use Rattle.usb_enum_sysfs.specs.Paths.{path_in}
use Rattle.usb_enum_sysfs.specs.Tree.{Tree}
use Rattle.usb_enum.specs.declared.controller.UsbControllerType.{UsbControllerType}

pub record BusFacts : Type 0 where
  pub hub : DeviceFacts
  pub driver : Option (List ℕ)
  pub controller : Option UsbControllerType

-- the name of a folder's driver: the file name of the target of its link
abbrev pub driver_of : Tree → List ℕ → Option (List ℕ)
driver_of t folder = option_and_then path_file_name (lookup (bytes_eq (path_in folder (codes "driver"))) t.links)

-- the bus of a root hub, whose controller is the parent of the hub's folder
abbrev pub bus_under : Tree → DeviceFacts → List ℕ → BusFacts
bus_under t hub parent = record { hub = hub; driver = driver_of t parent; controller = option_and_then controller_of (driver_of t parent) }

abbrev pub bus_of : Tree → DeviceFacts → Option BusFacts
bus_of t hub = option_and_then (λ parent. Some (bus_under t hub parent)) (path_parent hub.path)

-- the buses, in the order of the listing
abbrev pub buses : Tree → Result (List BusFacts) ErrorState
buses t = do
  hubs ← root_hubs t
  Ok (filter_map (bus_of t) hubs)
