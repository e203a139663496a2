-- CTL and X: what a control transfer asks for, and whom (USB 2.0, section 9.3).
use Rattle.std.specs.Prelude.{ℕ, List, ◌∷◌, codes, Option, Some, None, if◌then◌else◌}
use Rattle.std.specs.Borrow.{Bor}
use Rattle.std.specs.Option.{option_or}
use Rattle.std.specs.Str.{bytes_eq}
use Rattle.usb_desc.specs.declared.control.ControlType.{ControlType}
use Rattle.usb_desc.specs.declared.control.ControlType.TheVariants.{Standard, Class, Vendor}
use Rattle.usb_desc.specs.declared.control.Recipient.{Recipient}
use Rattle.usb_desc.specs.declared.control.Recipient.TheVariants as recipient
use Rattle.usb_desc.specs.declared.control.ControlIn.{ControlIn}
use Rattle.usb_desc.specs.declared.control.ControlOut.{ControlOut}
use Rattle.usb_script_words.specs.declared.control.Setup.{Setup}
use Rattle.usb_script_words.specs.declared.control.ControlTarget.{ControlTarget}
use Rattle.usb_script_words.specs.declared.control.ControlTarget.TheVariants.{Device, Interface}
use Rattle.usb_script_words.specs.Fields.{Word}
use Rattle.usb_script_words.specs.Letters.{device_letter, interface_letter}
use Rattle.usb_script_words.specs.Words.{◌>>=◌, name_of, hex_byte_of, hex_word_of, at_most_bytes, bytes_of, number_between}

-- the specification that defines a request
unfoldable pub control_type_of : Word → Option ControlType
control_type_of word =
    if bytes_eq word (codes "standard") then Some Standard
    else if bytes_eq word (codes "class") then Some Class
    else if bytes_eq word (codes "vendor") then Some Vendor
    else None

-- what a request is meant for
unfoldable pub recipient_of : Word → Option Recipient
recipient_of word =
    if bytes_eq word (codes "device") then Some recipient.Device
    else if bytes_eq word (codes "interface") then Some recipient.Interface
    else if bytes_eq word (codes "endpoint") then Some recipient.Endpoint
    else if bytes_eq word (codes "other") then Some recipient.Other
    else None

-- CTL: type, recipient, request, value and index; and the words behind them
unfoldable pub setup_and_more : List Word → Option (Setup × List Word)
setup_and_more (kind ∷ to ∷ request ∷ value ∷ index ∷ more) = do
  k ← control_type_of kind
  r ← recipient_of to
  b ← hex_byte_of request
  v ← hex_word_of value
  i ← hex_word_of index
  Some (record { control_type = k; recipient = r; request = b; value = v; index = i }, more)
setup_and_more words = None

-- X: the name of a device, or else that of an interface
unfoldable pub control_target_of : Word → Option ControlTarget
control_target_of word =
    option_or
    (name_of device_letter word >>= λ device. Some (Device device))
    (name_of interface_letter word >>= λ interface. Some (Interface interface))

-- the bytes of a data stage, at most 65535 of them
unfoldable pub control_bytes_of : Word → Option (List ℕ)
control_bytes_of word = bytes_of word >>= at_most_bytes 65535

-- the index of a string descriptor, which is not 0
unfoldable pub string_index_of : Word → Option ℕ
string_index_of word = number_between 1 255 word

-- the request for so many bytes
abbrev pub control_in_of : Setup → ℕ → ControlIn
control_in_of setup wanted =
    record { control_type = setup.control_type; recipient = setup.recipient; request = setup.request; value = setup.value; index = setup.index; length = wanted }

-- the request with these bytes
abbrev pub control_out_of : Setup → Bor (List ℕ) → ControlOut
control_out_of setup bytes =
    record { control_type = setup.control_type; recipient = setup.recipient; request = setup.request; value = setup.value; index = setup.index; bytes = bytes }
