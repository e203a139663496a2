use Rattle.std.proofs.Common.{◌≡◌, take}
use Rattle.usb_script_lines.specs.ItemKinds.{place_count}
use Rattle.usb_script.proofs.script.places_of_all.Given as goal

abbrev pub invariant-loop-item : goal.invariant-loop-item
invariant-loop-item l = l.count ≡ place_count (take l.item-index l.items)
