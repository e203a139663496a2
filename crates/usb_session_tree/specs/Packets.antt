-- The packets of udev that the setup lines of a script declare.
use Rattle.std.specs.Prelude.{List, Option, Some, None}
use Rattle.std.specs.List.{filter_map}
use Rattle.usb_enum.specs.declared.hotplug.UdevPacket.{UdevPacket}
use Rattle.usb_script_lines.specs.declared.item.Item.{Item}
use Rattle.usb_script_lines.specs.declared.item.Item.TheVariants.{Uevent}

abbrev pub packet_of : Item → Option UdevPacket
packet_of (Uevent groups bytes) = Some (record { groups = groups; bytes = bytes })
packet_of item = None

-- in the order of the lines
unfoldable pub packets_of : List Item → List UdevPacket
packets_of items = filter_map packet_of items
