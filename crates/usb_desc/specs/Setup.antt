-- Setup packets: USB 2.0, section 9.3 and table 9-2.
use Rattle.std.specs.Prelude.{ℕ, ◌+◌, ◌*◌, ◌/◌, ◌%◌, List, [], ◌∷◌, length}
use Rattle.usb_desc.specs.declared.types.Direction.{Direction}
use Rattle.usb_desc.specs.declared.types.Direction.TheVariants.{Out, In}
use Rattle.usb_desc.specs.declared.control.ControlType.{ControlType}
use Rattle.usb_desc.specs.declared.control.ControlType.TheVariants.{Standard, Class, Vendor}
use Rattle.usb_desc.specs.declared.control.Recipient.{Recipient}
use Rattle.usb_desc.specs.declared.control.Recipient.TheVariants.{Device, Interface, Endpoint, Other}
use Rattle.usb_desc.specs.declared.control.ControlIn.{ControlIn}
use Rattle.usb_desc.specs.declared.control.ControlOut.{ControlOut}

-- bit 7 of bmRequestType
abbrev pub direction_bit : Direction → ℕ
direction_bit Out = 0
direction_bit In = 128

-- bits 5 and 6
abbrev pub type_number : ControlType → ℕ
type_number Standard = 0
type_number Class = 1
type_number Vendor = 2

-- bits 0 to 4
abbrev pub recipient_number : Recipient → ℕ
recipient_number Device = 0
recipient_number Interface = 1
recipient_number Endpoint = 2
recipient_number Other = 3

abbrev pub request_type : Direction → ControlType → Recipient → ℕ
request_type direction kind recipient =
    direction_bit direction + 32 * type_number kind + recipient_number recipient

-- the two bytes of a word, the low one first
abbrev pub low_byte : ℕ → ℕ
low_byte word = word % 256

abbrev pub high_byte : ℕ → ℕ
high_byte word = word / 256

-- bmRequestType, bRequest, wValue, wIndex, wLength
abbrev pub packet : ℕ → ℕ → ℕ → ℕ → ℕ → List ℕ
packet kind request value index len =
    kind ∷ request ∷ low_byte value ∷ high_byte value ∷ low_byte index ∷ high_byte index ∷ low_byte len ∷ high_byte len ∷ []

abbrev pub request_type_in : ControlIn → ℕ
request_type_in setup = request_type In setup.control_type setup.recipient

abbrev pub request_type_out : ControlOut → ℕ
request_type_out setup = request_type Out setup.control_type setup.recipient

abbrev pub setup_packet_in : ControlIn → List ℕ
setup_packet_in setup = packet (request_type_in setup) setup.request setup.value setup.index setup.length

-- the length is that of the data
abbrev pub setup_packet_out : ControlOut → List ℕ
setup_packet_out setup = packet (request_type_out setup) setup.request setup.value setup.index (length setup.bytes.now)
