-- What enumeration tells of a device, in words.
use Rattle.std.specs.Prelude.{ℕ, List, [], ◌∷◌, ◌++◌, codes, flat_map}
use Rattle.std.specs.Fmt.{decimal}
use Rattle.usb_enum.specs.Devices.{DeviceFacts, InterfaceFacts}
use Rattle.usb_session_text.specs.Settings.{speed_word}
use Rattle.usb_session_text.specs.Words.{line_of, spaced, part, two_digits, four_digits, class_code}
use Rattle.usb_session_tree.specs.Parts.{with_colons, string_word}

-- a port behind another
abbrev pub further_port : ℕ → List ℕ
further_port port = 46 ∷ decimal port

-- the ports from the root hub to the device, with a dot between them, or a dash for none
abbrev pub ports_word : List ℕ → List ℕ
ports_word [] = codes "-"
ports_word (port ∷ ports) = decimal port ++ flat_map further_port ports

-- where a device is: its bus, its address and its ports
unfoldable pub place_words : DeviceFacts → List ℕ
place_words d = spaced (decimal d.numbers.busnum) (decimal d.numbers.address ∷ ports_word d.port_chain ∷ [])

-- which it is: its vendor, its product and its version, and the version of USB
unfoldable pub id_words : DeviceFacts → List ℕ
id_words d =
    spaced (four_digits d.numbers.vendor_id)
    (four_digits d.numbers.product_id ∷ four_digits d.numbers.device_version ∷ four_digits d.numbers.usb_version ∷ [])

-- its speed, and the strings of the manufacturer, the product and the serial number
unfoldable pub string_words : DeviceFacts → List ℕ
string_words d = spaced (speed_word d.speed) (string_word d.manufacturer ∷ string_word d.product ∷ string_word d.serial ∷ [])

-- all of these, and its class with subclass and protocol
unfoldable pub own_words : DeviceFacts → List ℕ
own_words d =
    spaced (place_words d) (id_words d ∷ class_code d.numbers.class d.numbers.subclass d.numbers.protocol ∷ string_words d ∷ [])

-- a class with its subclass and protocol, with a colon between them
unfoldable pub class_word : ℕ → ℕ → ℕ → List ℕ
class_word class subclass protocol = with_colons (two_digits class) (two_digits subclass ∷ two_digits protocol ∷ [])

-- an interface: its number, its class with subclass and protocol, and its string
unfoldable pub interface_word : InterfaceFacts → List ℕ
interface_word i =
    with_colons (decimal i.number) (class_word i.class i.subclass i.protocol ∷ string_word i.name ∷ [])

abbrev pub interface_part : InterfaceFacts → List ℕ
interface_part i = part (interface_word i)

-- a device and its interfaces
unfoldable pub device_words : DeviceFacts → List ℕ
device_words d = own_words d ++ flat_map interface_part d.interfaces

unfoldable pub info_line : DeviceFacts → List ℕ
info_line d = line_of (codes "info") (device_words d ∷ [])
