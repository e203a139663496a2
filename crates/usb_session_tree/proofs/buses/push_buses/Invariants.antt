use Rattle.std.proofs.Common.{◌≡◌, ◌++◌, drop}
use Rattle.std.specs.Prelude.{string_bytes, flat_map}
use Rattle.usb_session_tree.specs.Buses.{bus_part}
use Rattle.usb_session_tree.proofs.buses.push_buses.Given as goal

abbrev pub invariant-loop-bus : goal.invariant-loop-bus
invariant-loop-bus l =
    string_bytes l.out ++ flat_map bus_part (drop l.bus-index l.buses) ≡ string_bytes l.initial.out ++ flat_map bus_part l.buses
