use Rattle.std.proofs.Common.{◌≤◌, ◌-◌, length, drop}
use Rattle.usb_script_words.specs.Fields.{texts}
use Rattle.usb_script_words.specs.Selectors.{selector_of}
use Rattle.usb_script_words.proofs.SelectorLemmas.{Left}
use Rattle.usb_script_words.proofs.selector.criteria.Given as goal

abbrev pub invariant-loop-start : goal.invariant-loop-start
invariant-loop-start l = (l.start ≤ length l.words) × Left l.criteria.items (drop l.start (texts l.words)) (selector_of (texts l.words))

abbrev pub decreases-loop-start : goal.decreases-loop-start
decreases-loop-start l = length l.words - l.start
