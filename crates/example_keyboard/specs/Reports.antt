-- The reports of a boot keyboard.
use Rattle.std.specs.Prelude.{ℕ, ◌==◌, List, [], ◌∷◌, length, slice_index, Option, Some, None, if◌then◌else◌}
use Rattle.example_keyboard.specs.declared.report.Report.{Report}

-- the report that a packet is: the modifiers, a byte that is reserved, and six keys (HID 1.11, appendix B, descriptor 1)
abbrev pub report_of : List ℕ → Option Report
report_of packet =
    if length packet == 8
    then Some (record {
      modifiers = slice_index packet 0;
      keys = slice_index packet 2 ∷ slice_index packet 3 ∷ slice_index packet 4 ∷ slice_index packet 5
          ∷ slice_index packet 6 ∷ slice_index packet 7 ∷ [];
    })
    else None
