use Rattle.std.proofs.Common.{◌≡◌, ◌++◌, drop}
use Rattle.std.specs.Prelude.{string_bytes, flat_map}
use Rattle.usb_session_tree.specs.Devices.{further_port}
use Rattle.usb_session_tree.proofs.devices.push_further_ports.Given as goal

abbrev pub invariant-loop-port : goal.invariant-loop-port
invariant-loop-port l =
    string_bytes l.out ++ flat_map further_port (drop l.port-index l.ports) ≡ string_bytes l.initial.out ++ flat_map further_port l.ports
