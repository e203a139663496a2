-- What the device lines of a script take: each a name, and a bus with an address.
use Rattle.std.specs.Prelude.{◌≡◌, Bool, List, Option, Some, None}
use Rattle.std.specs.List.{filter_map, list_all}
use Rattle.usb_script_lines.specs.declared.item.Item.{Item}
use Rattle.usb_script_lines.specs.declared.item.Item.TheVariants.{Device}
use Rattle.usb_script.specs.declared.order.Taken.{Taken}
use Rattle.usb_script_lines.specs.ItemKinds.{is_setup}

-- what an item takes, if it is a device line
abbrev pub taken_by : Item → Option Taken
taken_by (Device device bus address speed configuration descriptors) = Some (record { device = device; bus = bus; address = address })
taken_by item = None

-- what these items take, in order
abbrev pub taken_of : List Item → List Taken
taken_of items = filter_map taken_by items

-- what is known of these items: whether they are setup lines alone, and what their device lines take (`places`; not places of the
-- kernel)
pub record IsKnown (items : List Item) (are_setup : Bool) (taken : List Taken) : Type 0 where
  pub setup : are_setup ≡ list_all is_setup items
  pub places : taken ≡ taken_of items
