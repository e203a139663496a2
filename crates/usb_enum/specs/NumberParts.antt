-- The parts of the numbers of a device, in the order in which they are read.
use Rattle.std.specs.Prelude.{ℕ, List, codes, Result, Ok}
use Rattle.usb_error.specs.Outcomes.{◌>>=◌}
use Rattle.usb_enum_sysfs.specs.Attributes.{attribute}
use Rattle.usb_enum_sysfs.specs.Numbers.{decimal_byte, hex_byte, hex_word, version_word}
use Rattle.usb_enum_sysfs.specs.Tree.{Tree}
use Rattle.usb_enum_sysfs.specs.declared.sysfs.SysfsError.{SysfsError}
use Rattle.usb_enum.specs.declared.numbers.ClassNumbers.{ClassNumbers}
use Rattle.usb_enum.specs.declared.numbers.PlaceNumbers.{PlaceNumbers}
use Rattle.usb_enum.specs.declared.numbers.ProductNumbers.{ProductNumbers}

abbrev pub place_numbers : Tree → List ℕ → Result PlaceNumbers SysfsError
place_numbers t folder = do
  busnum ← attribute decimal_byte t folder (codes "busnum")
  address ← attribute decimal_byte t folder (codes "devnum")
  Ok (record { busnum = busnum; address = address })

abbrev pub product_numbers : Tree → List ℕ → Result ProductNumbers SysfsError
product_numbers t folder = do
  vendor_id ← attribute hex_word t folder (codes "idVendor")
  product_id ← attribute hex_word t folder (codes "idProduct")
  device_version ← attribute hex_word t folder (codes "bcdDevice")
  usb_version ← attribute version_word t folder (codes "version")
  Ok (record { vendor_id = vendor_id; product_id = product_id; device_version = device_version; usb_version = usb_version })

abbrev pub class_numbers : Tree → List ℕ → Result ClassNumbers SysfsError
class_numbers t folder = do
  class ← attribute hex_byte t folder (codes "bDeviceClass")
  subclass ← attribute hex_byte t folder (codes "bDeviceSubClass")
  protocol ← attribute hex_byte t folder (codes "bDeviceProtocol")
  Ok (record { class = class; subclass = subclass; protocol = protocol })
