-- What holds of the items of every parsed script.
use Rattle.std.specs.Prelude.{◌≤◌, List, length}
use Rattle.usb_script_lines.specs.declared.item.Item.{Item}
use Rattle.usb_script_lines.specs.ItemKinds.{place_count}

-- there are no more items than a script has bytes, and they use no more places of the kernel
pub record IsBounded (items : List Item) : Type 0 where
  pub few : length items ≤ 1048576
  pub places : place_count items ≤ 1048576
