use Rattle.std.proofs.Common.{◌∙◌, refl, ap}
use Rattle.usb_enum_sysfs.specs.Numbers.{number}
use Rattle.usb_enum_sysfs.proofs.NumberLemmas.{number_from_parse}
use Rattle.usb_enum_sysfs.proofs.numbers.U8FromHexStr.from_hex_str.Goals as goal

pub returns : goal.returns
returns c = record { value = c.ok.ensures.value ∙ number_from_parse 8 16 256 c.without_prefix.result.now c.from_str_radix.result refl c.from_str_radix.ensures.value ∙ ap (λ t. number 16 256 t) c.without_prefix.ensures.text }
