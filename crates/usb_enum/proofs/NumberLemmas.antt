-- The numbers of a device are their parts, read one after the other.
use Rattle.std.proofs.Common.{◌≡◌, ℕ, List, Result, Ok, Err, refl}
use Rattle.std.specs.Prelude.{codes}
use Rattle.usb_error.specs.Outcomes.{◌>>=◌}
use Rattle.usb_enum_sysfs.specs.Attributes.{attribute}
use Rattle.usb_enum_sysfs.specs.Numbers.{decimal_byte, hex_byte, hex_word, version_word}
use Rattle.usb_enum_sysfs.specs.Tree.{Tree}
use Rattle.usb_enum_sysfs.specs.declared.sysfs.SysfsError.{SysfsError}
use Rattle.usb_enum.specs.NumberParts.{place_numbers, product_numbers, class_numbers}
use Rattle.usb_enum.specs.Probing.{numbers}
use Rattle.usb_enum.specs.declared.numbers.ClassNumbers.{ClassNumbers}
use Rattle.usb_enum.specs.declared.numbers.Numbers.{Numbers}
use Rattle.usb_enum.specs.declared.numbers.PlaceNumbers.{PlaceNumbers}
use Rattle.usb_enum.specs.declared.numbers.ProductNumbers.{ProductNumbers}

-- the numbers of these parts
abbrev pub of_parts : PlaceNumbers → ProductNumbers → ClassNumbers → Numbers
of_parts place product class = record {
  busnum = place.busnum;
  address = place.address;
  vendor_id = product.vendor_id;
  product_id = product.product_id;
  device_version = product.device_version;
  usb_version = product.usb_version;
  class = class.class;
  subclass = class.subclass;
  protocol = class.protocol;
}

pub numbers_by_parts : (t : Tree) (folder : List ℕ) → numbers t folder ≡ (place_numbers t folder >>= λ place. product_numbers t folder >>= λ product. class_numbers t folder >>= λ class. Ok (of_parts place product class))
numbers_by_parts t folder = by (attribute decimal_byte t folder (codes "busnum")) (attribute decimal_byte t folder (codes "devnum")) (attribute hex_word t folder (codes "idVendor")) (attribute hex_word t folder (codes "idProduct")) (attribute hex_word t folder (codes "bcdDevice")) (attribute version_word t folder (codes "version")) (attribute hex_byte t folder (codes "bDeviceClass")) (attribute hex_byte t folder (codes "bDeviceSubClass")) (attribute hex_byte t folder (codes "bDeviceProtocol"))
  where
    by : (busnum address vendor_id product_id device_version usb_version class subclass protocol : Result ℕ SysfsError)
        → (busnum >>= λ a. address >>= λ b. vendor_id >>= λ c. product_id >>= λ d. device_version >>= λ e. usb_version >>= λ f. class >>= λ g. subclass >>= λ h. protocol >>= λ i. Ok (of_parts (record { busnum = a; address = b }) (record { vendor_id = c; product_id = d; device_version = e; usb_version = f }) (record { class = g; subclass = h; protocol = i })))
        ≡ ((busnum >>= λ a. address >>= λ b. Ok (record { busnum = a; address = b })) >>= λ place. (vendor_id >>= λ c. product_id >>= λ d. device_version >>= λ e. usb_version >>= λ f. Ok (record { vendor_id = c; product_id = d; device_version = e; usb_version = f })) >>= λ product. (class >>= λ g. subclass >>= λ h. protocol >>= λ i. Ok (record { class = g; subclass = h; protocol = i })) >>= λ class. Ok (of_parts place product class))
    by (Err x) _ _ _ _ _ _ _ _ = refl
    by (Ok a) (Err x) _ _ _ _ _ _ _ = refl
    by (Ok a) (Ok b) (Err x) _ _ _ _ _ _ = refl
    by (Ok a) (Ok b) (Ok c) (Err x) _ _ _ _ _ = refl
    by (Ok a) (Ok b) (Ok c) (Ok d) (Err x) _ _ _ _ = refl
    by (Ok a) (Ok b) (Ok c) (Ok d) (Ok e) (Err x) _ _ _ = refl
    by (Ok a) (Ok b) (Ok c) (Ok d) (Ok e) (Ok f) (Err x) _ _ = refl
    by (Ok a) (Ok b) (Ok c) (Ok d) (Ok e) (Ok f) (Ok g) (Err x) _ = refl
    by (Ok a) (Ok b) (Ok c) (Ok d) (Ok e) (Ok f) (Ok g) (Ok h) (Err x) = refl
    by (Ok a) (Ok b) (Ok c) (Ok d) (Ok e) (Ok f) (Ok g) (Ok h) (Ok i) = refl
