use Rattle.std.proofs.Common.{◌≡◌, length, drop}
use Rattle.std.specs.Prelude.{◌==◌}
use Rattle.std.specs.List.{slice_split}
use Rattle.usb_enum_sysfs.specs.Ports.{all_bytes}
use Rattle.usb_enum_sysfs.proofs.PortLemmas.{onto}
use Rattle.usb_enum_sysfs.proofs.ports.ports_of.Given as goal

abbrev pub invariant-loop-part : goal.invariant-loop-part
invariant-loop-part l =
    (goal.iterator-loop-part).can_next l.part-iterator ×
    (goal.iterator-loop-part).is_finite l.part-iterator ×
    (onto l.ports.items (all_bytes (drop (length l.yielded) (slice_split (λ b. b == 46) l.fn.text))) ≡ all_bytes (slice_split (λ b. b == 46) l.fn.text))
