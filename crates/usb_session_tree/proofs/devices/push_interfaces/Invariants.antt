use Rattle.std.proofs.Common.{◌≡◌, ◌++◌, drop}
use Rattle.std.specs.Prelude.{string_bytes, flat_map}
use Rattle.usb_session_tree.specs.Devices.{interface_part}
use Rattle.usb_session_tree.proofs.devices.push_interfaces.Given as goal

abbrev pub invariant-loop-interface : goal.invariant-loop-interface
invariant-loop-interface l =
    string_bytes l.out ++ flat_map interface_part (drop l.interface-index l.interfaces) ≡ string_bytes l.initial.out ++ flat_map interface_part l.interfaces
