-- The definitions, computed on small trees and packets with answers worked out by hand.
use Rattle.std.proofs.Common.{◌≡◌, ℕ, List, [], ◌∷◌, ◌++◌, Some, None, Ok, false, refl}
use Rattle.std.specs.Prelude.{codes}
use Rattle.std.specs.Str.{is_utf8, chars, trim_start, trim_end}
use Rattle.std.specs.Path.{path_file_name, split_last_component, trim_trailing, rsplit_once}
use lib.Utf8.{encode}
use Rattle.usb_enum_sysfs.specs.Numbers.{number}
use Rattle.usb_enum.specs.Controllers.{controller_of}
use Rattle.usb_enum_sysfs.specs.Tree.{Tree, bare}
use Rattle.usb_enum.specs.Udev.{received, notice_in}
use Rattle.usb_enum.specs.Devices.{DeviceFacts}
use Rattle.usb_enum.specs.Probing.{probe, by_number}
use Rattle.usb_enum_sysfs.specs.Speeds.{speed_of}
use Rattle.usb_enum_sysfs.specs.declared.speed.Speed.TheVariants.{High}
use Rattle.usb_enum_sysfs.specs.declared.tree.Attribute.{Attribute}
use Rattle.usb_enum.specs.declared.controller.UsbControllerType.TheVariants.{XHCI, EHCI}
use Rattle.usb_enum_sysfs.specs.declared.tree.Attribute.TheVariants.{Content}

controllers : (controller_of (codes "xhci_hcd") ≡ Some XHCI) × (controller_of (codes "ehci-pci") ≡ Some EHCI) × (controller_of (codes "hci") ≡ None) × (controller_of (codes "hci_xhci") ≡ None)
controllers = (refl, refl, refl, refl)

driver_names : (path_file_name (codes "../bus/pci/drivers/xhci_hcd") ≡ Some (codes "xhci_hcd")) × (path_file_name (codes "a/.") ≡ Some (codes "a")) × (path_file_name (codes "a/..") ≡ None) × (path_file_name (codes "/") ≡ None)
unfolding path_file_name split_last_component trim_trailing rsplit_once
driver_names = (refl, refl, refl, refl)

-- a device with one interface
attributes_of_box : List (List ℕ × Attribute)
attributes_of_box =
    (codes "/b/busnum", Content (codes "1")) ∷ (codes "/b/devnum", Content (codes "6")) ∷ (codes "/b/devpath", Content (codes "6"))
    ∷ (codes "/b/idVendor", Content (codes "aaaa")) ∷ (codes "/b/idProduct", Content (codes "bbbb")) ∷ (codes "/b/bcdDevice", Content (codes "0100"))
    ∷ (codes "/b/version", Content (codes " 2.00\n")) ∷ (codes "/b/bDeviceClass", Content (codes "00")) ∷ (codes "/b/bDeviceSubClass", Content (codes "00"))
    ∷ (codes "/b/bDeviceProtocol", Content (codes "00")) ∷ (codes "/b/speed", Content (codes "480")) ∷ (codes "/b/product", Content (codes "Box"))
    ∷ (codes "/b/1-6:1.0/bInterfaceNumber", Content (codes "00")) ∷ (codes "/b/1-6:1.0/bInterfaceClass", Content (codes "ff"))
    ∷ (codes "/b/1-6:1.0/bInterfaceSubClass", Content (codes "00")) ∷ (codes "/b/1-6:1.0/bInterfaceProtocol", Content (codes "00")) ∷ []

box : Tree
box = record bare { attributes = attributes_of_box; folders = (codes "/b", codes "1-6:1.0" ∷ codes "power" ∷ []) ∷ [] }

facts_of_box : DeviceFacts
facts_of_box = record {
  path = codes "/b";
  numbers = record { busnum = 1; address = 6; vendor_id = 43690; product_id = 48059; device_version = 256; usb_version = 512; class = 0; subclass = 0; protocol = 0 };
  bus_id = codes "001";
  port_chain = 6 ∷ [];
  speed = Some High;
  manufacturer = None;
  product = Some (codes "Box");
  serial = None;
  interfaces = record { number = 0; class = 255; subclass = 0; protocol = 0; name = None } ∷ [];
}

box_is_probed : probe box (codes "/b") ≡ Ok facts_of_box
unfolding box attributes_of_box facts_of_box number is_utf8 chars trim_start trim_end encode speed_of by_number
box_is_probed = refl

-- a packet that tells that the device 6 of the bus 1 went
removed : List ℕ
removed = (codes "libudev" ++ 0 ∷ 254 ∷ 237 ∷ 202 ∷ 254 ∷ 24 ∷ 0 ∷ 0 ∷ 0 ∷ 24 ∷ 0 ∷ 0 ∷ 0 ∷ 47 ∷ 0 ∷ 0 ∷ 0 ∷ codes "ACTION=remove") ++ (0 ∷ codes "BUSNUM=001") ++ (0 ∷ codes "DEVNUM=006") ++ (0 ∷ codes "DEVPATH=/d") ++ 0 ∷ []

device_went : notice_in removed ≡ Some (record { added = false; busnum = 1; address = 6; path = codes "/d" })
unfolding removed received number is_utf8 chars encode
device_went = refl
