use Rattle.std.proofs.Common.{◌∙◌, sym, ap}
use Rattle.std.specs.Map.{lookup}
use Rattle.std.specs.Str.{bytes_eq}
use Rattle.usb_enum_sysfs.proofs.MapLemmas.{lookup-keyed}
use Rattle.usb_enum_sysfs.proofs.text_map.TextMap.get.Goals as goal

pub returns : goal.returns
returns g c = record { value = c.get.ensures.value ∙ sym (lookup-keyed c.args.key.now c.self.inside.index.entries) ∙ ap (λ es. lookup (bytes_eq c.args.key.now) es) c.self.view_is }
