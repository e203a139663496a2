use Rattle.std.proofs.Common.{◌≡◌, ◌++◌, map}
use Rattle.std.specs.List.{filter_map}
use Rattle.std.specs.String.{string_bytes}
use Rattle.usb_enum.specs.Listing.{device_at}
use Rattle.usb_enum.proofs.enumeration.find_devices.Given as goal

abbrev pub invariant-loop-name : goal.invariant-loop-name
invariant-loop-name l = l.found.items ++ filter_map (device_at l.kind l.tree) (map (λ e. (string_bytes e.0, e.1)) l.name-iterator) ≡ filter_map (device_at l.kind l.tree) l.tree.entries
