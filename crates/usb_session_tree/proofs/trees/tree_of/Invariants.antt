use Rattle.std.proofs.Common.{◌≡◌, drop}
use Rattle.std.specs.Prelude.{fold}
use Rattle.usb_enum_sysfs.specs.Tree.{bare}
use Rattle.usb_session_tree.specs.Trees.{with_item}
use Rattle.usb_session_tree.proofs.trees.tree_of.Given as goal

abbrev pub invariant-loop-item : goal.invariant-loop-item
invariant-loop-item l = fold with_item l.tree (drop l.item-index l.items) ≡ fold with_item bare l.items
