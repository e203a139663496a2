use Rattle.std.proofs.Common.{◌≡◌, length, drop}
use Rattle.std.specs.List.{slice_split, list_all}
use Rattle.usb_script_words.specs.Places.{is_slash, is_step}
use Rattle.usb_script_words.proofs.places.are_steps.Given as goal

abbrev pub invariant-loop-name : goal.invariant-loop-name
invariant-loop-name l =
    (goal.iterator-loop-name).can_next l.name-iterator ×
    (goal.iterator-loop-name).is_finite l.name-iterator ×
    (list_all is_step (drop (length l.yielded) (slice_split is_slash l.fn.names)) ≡ list_all is_step (slice_split is_slash l.fn.names))
