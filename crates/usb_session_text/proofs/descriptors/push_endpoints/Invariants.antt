use Rattle.std.proofs.Common.{◌≡◌, ◌++◌}
use Rattle.std.specs.Prelude.{string_bytes, flat_map}
use Rattle.usb_session_text.specs.Descriptors.{endpoint_part}
use Rattle.usb_session_text.proofs.descriptors.push_endpoints.Given as goal

abbrev pub invariant-loop-endpoint : goal.invariant-loop-endpoint
invariant-loop-endpoint l = string_bytes l.out ≡ string_bytes l.initial.out ++ flat_map endpoint_part l.yielded
