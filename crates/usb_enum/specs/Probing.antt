-- Probing: what the attributes of a folder tell of a device.
use Rattle.std.specs.Prelude.{ℕ, ◌==◌, List, filter, codes, Option, None, Result, Ok, if◌then◌else◌}
use Rattle.std.specs.Result.{result_ok}
use Rattle.std.specs.List.{filter_map, flat_map, list_any, range_with_len}
use Rattle.usb_enum_sysfs.specs.Attributes.{attribute, string}
use Rattle.usb_enum.specs.Devices.{DeviceFacts, InterfaceFacts, bus_id_of}
use Rattle.usb_enum_sysfs.specs.Numbers.{decimal_byte, hex_byte, hex_word, version_word}
use Rattle.usb_error.specs.Outcomes.{◌>>=◌}
use Rattle.usb_enum_sysfs.specs.Paths.{path_in}
use Rattle.usb_enum_sysfs.specs.Ports.{ports}
use Rattle.usb_enum_sysfs.specs.Speeds.{speed}
use Rattle.usb_enum_sysfs.specs.Tree.{Tree, children_of}
use Rattle.usb_enum_sysfs.specs.declared.sysfs.SysfsError.{SysfsError}
use Rattle.usb_enum.specs.declared.numbers.Numbers.{Numbers}

-- the numbers of a device: the first attribute that fails is the error
abbrev pub numbers : Tree → List ℕ → Result Numbers SysfsError
numbers t folder = do
  busnum ← attribute decimal_byte t folder (codes "busnum")
  address ← attribute decimal_byte t folder (codes "devnum")
  vendor_id ← attribute hex_word t folder (codes "idVendor")
  product_id ← attribute hex_word t folder (codes "idProduct")
  device_version ← attribute hex_word t folder (codes "bcdDevice")
  usb_version ← attribute version_word t folder (codes "version")
  class ← attribute hex_byte t folder (codes "bDeviceClass")
  subclass ← attribute hex_byte t folder (codes "bDeviceSubClass")
  protocol ← attribute hex_byte t folder (codes "bDeviceProtocol")
  Ok (record {
    busnum = busnum;
    address = address;
    vendor_id = vendor_id;
    product_id = product_id;
    device_version = device_version;
    usb_version = usb_version;
    class = class;
    subclass = subclass;
    protocol = protocol;
  })

-- an interface, by the attributes of its own folder
abbrev pub interface : Tree → List ℕ → Result InterfaceFacts SysfsError
interface t folder = do
  number ← attribute hex_byte t folder (codes "bInterfaceNumber")
  class ← attribute hex_byte t folder (codes "bInterfaceClass")
  subclass ← attribute hex_byte t folder (codes "bInterfaceSubClass")
  protocol ← attribute hex_byte t folder (codes "bInterfaceProtocol")
  Ok (record { number = number; class = class; subclass = subclass; protocol = protocol; name = string t folder (codes "interface") })

-- the interface in a sub-folder: one whose name has a colon, and whose attributes read
abbrev pub interface_in : Tree → List ℕ → List ℕ → Option InterfaceFacts
interface_in t folder name = if list_any (λ b. b == 58) name then result_ok (interface t (path_in folder name)) else None

-- interfaces by rising number; those of one number keep their order
abbrev pub with_number : List InterfaceFacts → ℕ → List InterfaceFacts
with_number interfaces n = filter (λ i. i.number == n) interfaces

unfoldable pub by_number : List InterfaceFacts → List InterfaceFacts
by_number interfaces = flat_map (with_number interfaces) (range_with_len 0 256)

-- the interfaces of a device, by number and then by the names of their folders
abbrev pub interfaces : Tree → List ℕ → List InterfaceFacts
interfaces t folder = by_number (filter_map (interface_in t folder) (children_of t folder))

-- the device with this folder and these numbers
abbrev pub device_of : Tree → List ℕ → Numbers → DeviceFacts
device_of t folder n = record {
  path = folder;
  numbers = n;
  bus_id = bus_id_of n.busnum;
  port_chain = ports t folder;
  speed = speed t folder;
  manufacturer = string t folder (codes "manufacturer");
  product = string t folder (codes "product");
  serial = string t folder (codes "serial");
  interfaces = interfaces t folder;
}

abbrev pub probe : Tree → List ℕ → Result DeviceFacts SysfsError
probe t folder = do
  n ← numbers t folder
  Ok (device_of t folder n)
