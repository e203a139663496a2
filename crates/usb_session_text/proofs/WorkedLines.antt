-- Whole lines of descriptors, computed by the definitions alone.
use Rattle.std.proofs.Common.{◌≡◌, ℕ, List, [], ◌∷◌, codes, refl}
use Rattle.std.specs.Fmt.{digits}
use Rattle.hex.specs.Hex.{encode_with}
use Rattle.usb_desc.specs.Chain.{chain}
use Rattle.usb_desc.specs.Groups.{groups}
use Rattle.usb_desc.specs.Configurations.{concatenated, configurations}
use Rattle.usb_desc.specs.Interfaces.{interfaces_among}
use Rattle.usb_session_text.specs.Words.{class_code}
use Rattle.usb_session_text.specs.Devices.{device_line, class_words, product_words, string_words}
use Rattle.usb_session_text.specs.Descriptors.{endpoint_words, class_words as interface_words, setting_words, configuration_words, descriptors_line}

abbrev hub : List ℕ
hub = 18 ∷ 1 ∷ 16 ∷ 3 ∷ 239 ∷ 2 ∷ 1 ∷ 9 ∷ 107 ∷ 29 ∷ 3 ∷ 0 ∷ 19 ∷ 5 ∷ 1 ∷ 2 ∷ 3 ∷ 2 ∷ []

pub fields_in_order : device_line hub ≡ codes "device 0310 ef 02 01 9 1d6b 0003 0513 1 2 3 2\n"
unfolding device_line class_words product_words string_words class_code digits encode_with
fields_in_order = refl

-- interface 1 stands before interface 0, and of interface 0 the setting 1 before the setting 0
abbrev two_interfaces : List ℕ
two_interfaces = 18 ∷ 1 ∷ 0 ∷ 2 ∷ 0 ∷ 0 ∷ 0 ∷ 64 ∷ 170 ∷ 170 ∷ 187 ∷ 187 ∷ 0 ∷ 1 ∷ 0 ∷ 0 ∷ 0 ∷ 1
    ∷ 9 ∷ 2 ∷ 43 ∷ 0 ∷ 2 ∷ 5 ∷ 0 ∷ 128 ∷ 50
    ∷ 9 ∷ 4 ∷ 1 ∷ 0 ∷ 0 ∷ 14 ∷ 1 ∷ 0 ∷ 0
    ∷ 9 ∷ 4 ∷ 0 ∷ 1 ∷ 1 ∷ 3 ∷ 0 ∷ 0 ∷ 0
    ∷ 7 ∷ 5 ∷ 5 ∷ 1 ∷ 0 ∷ 20 ∷ 1
    ∷ 9 ∷ 4 ∷ 0 ∷ 0 ∷ 0 ∷ 3 ∷ 1 ∷ 2 ∷ 0
    ∷ []

pub by_number_and_then_in_order : descriptors_line two_interfaces ≡ codes "desc cfg 5 if 0.1 03 00 00 ep 05 iso 1024 1 if 0.0 03 01 02 if 1.0 0e 01 00\n"
unfolding descriptors_line configuration_words setting_words interface_words class_code endpoint_words configurations concatenated groups chain interfaces_among digits encode_with
by_number_and_then_in_order = refl
