-- The line of a device descriptor: its fields in their order (USB 2.0, table 9-8).
use Rattle.std.specs.Prelude.{ℕ, List, [], ◌∷◌, codes, Option, unwrap_or}
use Rattle.std.specs.Fmt.{decimal}
use Rattle.usb_desc.specs.Fields.{usb_version, device_class, device_subclass, device_protocol, max_packet_size_0, vendor_id, product_id, device_version, manufacturer_string_index, product_string_index, serial_number_string_index, num_configurations}
use Rattle.usb_session_text.specs.Words.{line_of, spaced, four_digits, class_code}

-- the version of USB, and the class with its subclass and protocol
unfoldable pub class_words : List ℕ → List ℕ
class_words device =
    spaced (four_digits (usb_version device)) (class_code (device_class device) (device_subclass device) (device_protocol device) ∷ [])

-- the maximum packet size of endpoint 0, and what product this is
unfoldable pub product_words : List ℕ → List ℕ
product_words device =
    spaced (decimal (max_packet_size_0 device))
    (four_digits (vendor_id device) ∷ four_digits (product_id device) ∷ four_digits (device_version device) ∷ [])

-- the index of a string, or 0 for no string
abbrev pub index_word : Option ℕ → List ℕ
index_word index = decimal (unwrap_or index 0)

-- the strings of the manufacturer, the product and the serial number, and how many configurations there are
unfoldable pub string_words : List ℕ → List ℕ
string_words device =
    spaced (index_word (manufacturer_string_index device))
    (index_word (product_string_index device) ∷ index_word (serial_number_string_index device) ∷ decimal (num_configurations device) ∷ [])

unfoldable pub device_line : List ℕ → List ℕ
device_line device = line_of (codes "device") (class_words device ∷ product_words device ∷ string_words device ∷ [])
