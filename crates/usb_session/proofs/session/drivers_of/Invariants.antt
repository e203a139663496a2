use Rattle.std.proofs.Common.{◌≡◌, ◌++◌, drop}
use Rattle.std.specs.List.{filter_map}
use Rattle.usb_session.specs.Output.{driver_of_item}
use Rattle.usb_session.proofs.session.drivers_of.Given as goal

abbrev pub invariant-loop-item : goal.invariant-loop-item
invariant-loop-item l =
    l.drivers.items ++ filter_map (driver_of_item l.device) (drop l.item-index l.items) ≡ filter_map (driver_of_item l.device) l.items
