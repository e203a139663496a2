use Rattle.std.proofs.Common.{◌∙◌, refl, ap}
use Rattle.usb_enum_sysfs.specs.Numbers.{number}
use Rattle.usb_enum_sysfs.proofs.NumberLemmas.{number_from_parse}
use Rattle.usb_enum_sysfs.proofs.numbers.U16FromHexStr.from_hex_str.Goals as goal

pub returns : goal.returns
returns c = record { value = c.ok.ensures.value ∙ number_from_parse 16 16 65536 c.without_prefix.result.now c.from_str_radix.result refl c.from_str_radix.ensures.value ∙ ap (λ t. number 16 65536 t) c.without_prefix.ensures.text }
