use Rattle.std.proofs.Common.{◌≡◌, drop}
use Rattle.std.specs.Prelude.{fold}
use Rattle.usb_enum.specs.Selectors.{all_devices}
use Rattle.usb_session_tree.specs.Selecting.{with_criterion}
use Rattle.usb_session_tree.proofs.selecting.selector_with.Given as goal

abbrev pub invariant-loop-criterion : goal.invariant-loop-criterion
invariant-loop-criterion l =
    fold with_criterion l.selector (drop l.criterion-index l.criteria) ≡ fold with_criterion all_devices l.criteria
