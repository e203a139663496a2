use Rattle.std.proofs.Common.{◌≡◌, ◌++◌}
use Rattle.std.specs.Prelude.{string_bytes, flat_map}
use Rattle.usb_session_text.specs.Descriptors.{interface_part}
use Rattle.usb_session_text.proofs.descriptors.push_configuration.Given as goal

abbrev pub invariant-loop-interface : goal.invariant-loop-interface
invariant-loop-interface l = string_bytes l.out ++ flat_map interface_part l.interface-iterator ≡ string_bytes l.initial.out ++ flat_map interface_part l.initial.interface-iterator
