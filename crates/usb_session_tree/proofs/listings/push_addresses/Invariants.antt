use Rattle.std.proofs.Common.{◌≡◌, ◌++◌, drop}
use Rattle.std.specs.Prelude.{string_bytes, flat_map}
use Rattle.usb_session_tree.specs.Listings.{address_part}
use Rattle.usb_session_tree.proofs.listings.push_addresses.Given as goal

abbrev pub invariant-loop-device : goal.invariant-loop-device
invariant-loop-device l =
    string_bytes l.out ++ flat_map address_part (drop l.device-index l.devices) ≡ string_bytes l.initial.out ++ flat_map address_part l.devices
