use Rattle.std.proofs.Common.{◌≡◌, length, drop}
use Rattle.std.specs.Prelude.{◌==◌}
use Rattle.std.specs.List.{slice_split}
use Rattle.usb_enum_sysfs.specs.Numbers.{version_after, version_word}
use Rattle.usb_enum_sysfs.proofs.numbers.version_word.Given as goal

abbrev pub invariant-loop-part : goal.invariant-loop-part
invariant-loop-part l =
    (goal.iterator-loop-part).can_next l.part-iterator ×
    (goal.iterator-loop-part).is_finite l.part-iterator ×
    (version_after l.version (drop (length l.yielded) (slice_split (λ b. b == 46) l.text)) ≡ version_word l.text)
