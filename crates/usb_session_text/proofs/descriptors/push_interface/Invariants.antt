use Rattle.std.proofs.Common.{◌≡◌, ◌++◌}
use Rattle.std.specs.Prelude.{string_bytes, flat_map}
use Rattle.usb_session_text.specs.Descriptors.{setting_part}
use Rattle.usb_session_text.proofs.descriptors.push_interface.Given as goal

abbrev pub invariant-loop-setting : goal.invariant-loop-setting
invariant-loop-setting l = string_bytes l.out ≡ string_bytes l.initial.out ++ flat_map setting_part l.yielded
