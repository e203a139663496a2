use Rattle.std.proofs.Common.{◌≡◌, ◌++◌}
use Rattle.std.specs.Prelude.{string_bytes, flat_map}
use Rattle.usb_session_text.specs.Descriptors.{configuration_part}
use Rattle.usb_session_text.proofs.descriptors.push_configurations.Given as goal

abbrev pub invariant-loop-configuration : goal.invariant-loop-configuration
invariant-loop-configuration l = string_bytes l.out ≡ string_bytes l.initial.out ++ flat_map configuration_part l.yielded
