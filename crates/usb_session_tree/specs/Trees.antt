-- The tree of attributes that the setup lines of a script declare.
use Rattle.std.specs.Prelude.{List, fold, Some}
use Rattle.usb_enum_sysfs.specs.Tree.{Tree, bare, with_attribute, with_child, with_link, with_entry}
use Rattle.usb_enum_sysfs.specs.declared.tree.Attribute.TheVariants as content
use Rattle.usb_script_lines.specs.declared.item.Item.{Item}
use Rattle.usb_script_lines.specs.declared.item.Item.TheVariants.{Attribute, Denied, Child, Link, Entry, Root}

-- the tree with what a line sets; a later line for the same place replaces the earlier one, in its place
abbrev pub with_item : Tree → Item → Tree
with_item t (Attribute path name value) = with_attribute t path name (content.Content value)
with_item t (Denied path name errno) = with_attribute t path name (content.Denied errno)
with_item t (Child path name) = with_child t path name
with_item t (Link path name target) = with_link t path name target
with_item t (Entry name path) = with_entry t name path
with_item t (Root errno) = record t { refusal = Some errno }
with_item t item = t

-- the lines in their order
unfoldable pub tree_of : List Item → Tree
tree_of items = fold with_item bare items
