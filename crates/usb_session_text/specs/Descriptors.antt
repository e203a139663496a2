-- The line of a device's configurations: of each its value, the settings of its interfaces by rising interface number, and
-- the endpoints of each setting (USB 2.0, sections 9.6.3, 9.6.5 and 9.6.6).
use Rattle.std.specs.Prelude.{ℕ, List, [], ◌∷◌, ◌++◌, codes, flat_map}
use Rattle.std.specs.Fmt.{decimal}
use Rattle.usb_desc.specs.declared.types.TransferType.{TransferType}
use Rattle.usb_desc.specs.declared.types.TransferType.TheVariants.{Control, Isochronous, Bulk, Interrupt}
use Rattle.usb_desc.specs.Configurations.{configurations, endpoints}
use Rattle.usb_desc.specs.Interfaces.{interfaces}
use Rattle.usb_desc.specs.Fields.{configuration_value, interface_number, alternate_setting, interface_class, interface_subclass, interface_protocol, address, transfer_type, max_packet_size, interval}
use Rattle.usb_session_text.specs.Words.{spaced, two_digits, class_code, part}

abbrev pub type_word : TransferType → List ℕ
type_word Control = codes "control"
type_word Isochronous = codes "iso"
type_word Bulk = codes "bulk"
type_word Interrupt = codes "interrupt"

-- an endpoint: its address, its type, its maximum packet size and its interval
unfoldable pub endpoint_words : List ℕ → List ℕ
endpoint_words endpoint =
    spaced (codes "ep")
    (two_digits (address endpoint) ∷ type_word (transfer_type endpoint) ∷ decimal (max_packet_size endpoint) ∷ decimal (interval endpoint) ∷ [])

-- the interface's number and the setting's, with a dot between them
abbrev pub number_word : List ℕ → List ℕ
number_word setting = decimal (interface_number setting) ++ (codes "." ++ decimal (alternate_setting setting))

-- a setting of an interface: its numbers, and its class with its subclass and protocol
unfoldable pub class_words : List ℕ → List ℕ
class_words setting =
    spaced (codes "if")
    (number_word setting ∷ class_code (interface_class setting) (interface_subclass setting) (interface_protocol setting) ∷ [])

abbrev pub endpoint_part : List ℕ → List ℕ
endpoint_part endpoint = part (endpoint_words endpoint)

-- the setting, and its endpoints
unfoldable pub setting_words : List ℕ → List ℕ
setting_words setting = class_words setting ++ flat_map endpoint_part (endpoints setting)

abbrev pub setting_part : List ℕ → List ℕ
setting_part setting = part (setting_words setting)

-- the settings of one interface, in the order of their descriptors
abbrev pub interface_part : List (List ℕ) → List ℕ
interface_part settings = flat_map setting_part settings

-- the configuration's value, and its interfaces
unfoldable pub configuration_words : List ℕ → List ℕ
configuration_words configuration =
    spaced (codes "cfg") (decimal (configuration_value configuration) ∷ []) ++ flat_map interface_part (interfaces configuration)

abbrev pub configuration_part : List ℕ → List ℕ
configuration_part configuration = part (configuration_words configuration)

unfoldable pub descriptors_line : List ℕ → List ℕ
descriptors_line bytes = codes "desc" ++ flat_map configuration_part (configurations bytes) ++ 10 ∷ []
