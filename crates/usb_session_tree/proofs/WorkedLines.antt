-- Whole lines, computed by the definitions alone.
use Rattle.std.proofs.Common.{◌≡◌, [], ◌∷◌, Some, None, true, refl}
use Rattle.std.specs.Prelude.{codes}
use Rattle.std.specs.Fmt.{digits}
use Rattle.hex.specs.Hex.{encode_with}
use Rattle.futures.specs.declared.task.Poll.TheVariants.{Ready}
use Rattle.usb_enum_sysfs.specs.declared.speed.Speed.TheVariants.{High}
use Rattle.usb_enum_sysfs.specs.declared.sysfs.SysfsErrorKind.TheVariants.{Io, Parse}
use Rattle.usb_enum.specs.Buses.{BusFacts}
use Rattle.usb_enum.specs.Devices.{DeviceFacts, bus_id_of}
use Rattle.usb_enum.specs.declared.controller.UsbControllerType.TheVariants.{XHCI}
use Rattle.usb_enum.specs.declared.hotplug.HotplugEvent.TheVariants.{Connected, Disconnected}
use Rattle.usb_session_text.specs.Words.{hex_word, class_code}
use Rattle.usb_session_tree.specs.Devices.{place_words, id_words, string_words, own_words, class_word, interface_word, device_words, info_line}
use Rattle.usb_session_tree.specs.Listings.{devices_line}
use Rattle.usb_session_tree.specs.Buses.{bus_word, buses_line}
use Rattle.usb_session_tree.specs.Attributes.{sysfs_line, match_line}
use Rattle.usb_session_tree.specs.Events.{connected_line, disconnected_line, hotplug_line}

-- a device with one interface, and one below a hub with none
box : DeviceFacts
box = record {
  path = codes "/b";
  numbers = record { busnum = 1; address = 6; vendor_id = 43690; product_id = 48059; device_version = 256; usb_version = 512; class = 0; subclass = 0; protocol = 0 };
  bus_id = bus_id_of 1;
  port_chain = 6 ∷ [];
  speed = Some High;
  manufacturer = None;
  product = Some (codes "Box");
  serial = None;
  interfaces = record { number = 0; class = 255; subclass = 0; protocol = 0; name = None } ∷ [];
}

stick : DeviceFacts
stick = record box { port_chain = 1 ∷ 4 ∷ 12 ∷ []; speed = None; product = Some []; interfaces = [] }

hub : DeviceFacts
hub = record box { port_chain = []; product = Some (codes "xHCI"); interfaces = [] }

box_is_told : info_line box ≡ codes "info 1 6 6 aaaa bbbb 0100 0200 00 00 00 High none 426f78 none 0:ff:00:00:none\n"
unfolding box info_line device_words own_words place_words id_words string_words class_word interface_word class_code hex_word digits encode_with
box_is_told = refl

ports_have_dots : info_line stick ≡ codes "info 1 6 1.4.12 aaaa bbbb 0100 0200 00 00 00 none none - none\n"
unfolding stick box info_line device_words own_words place_words id_words string_words class_word interface_word class_code hex_word digits encode_with
ports_have_dots = refl

listing : devices_line (box ∷ stick ∷ []) ≡ codes "list 2 1:6 1:6\n"
unfolding stick box devices_line digits
listing = refl

bus : BusFacts
bus = record { hub = hub; driver = Some (codes "xhci_hcd"); controller = Some XHCI }

bus_is_told : buses_line (bus ∷ []) ≡ codes "buses 1 1:XHCI:xhci_hcd:78484349\n"
unfolding bus hub box buses_line bus_word hex_word digits encode_with
bus_is_told = refl

missing : sysfs_line (record { path = codes "/nowhere/busnum"; kind = Io 2 }) ≡ codes "sysfs /nowhere/busnum io 2\n"
unfolding sysfs_line digits
missing = refl

no_number : sysfs_line (record { path = codes "/d/busnum"; kind = Parse (codes "256") }) ≡ codes "sysfs /d/busnum parse 323536\n"
unfolding sysfs_line encode_with
no_number = refl

it_matches : match_line true ≡ codes "match true\n"
unfolding match_line
it_matches = refl

device_came : hotplug_line (Ready (Connected stick)) ≡ codes "connected 1 6 1.4.12 aaaa bbbb 0100 0200 00 00 00 none none - none\n"
unfolding stick box connected_line device_words own_words place_words id_words string_words class_word interface_word class_code hex_word digits encode_with
device_came = refl

device_went : hotplug_line (Ready (Disconnected (record { bus = 1; address = 6 }))) ≡ codes "disconnected 1 6\n"
unfolding disconnected_line digits
device_went = refl
