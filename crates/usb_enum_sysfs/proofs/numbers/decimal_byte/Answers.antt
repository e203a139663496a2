use Rattle.std.proofs.Common.{◌∙◌, refl}
use Rattle.usb_enum_sysfs.proofs.NumberLemmas.{number_from_parse}
use Rattle.usb_enum_sysfs.proofs.numbers.decimal_byte.Goals as goal

pub returns : goal.returns
returns c = record { value = c.ok.ensures.value ∙ number_from_parse 8 10 256 c.args.text.now c.parse.result refl c.parse.ensures.value.0 }
