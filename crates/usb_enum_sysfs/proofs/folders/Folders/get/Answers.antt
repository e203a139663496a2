use Rattle.std.proofs.Common.{◌∙◌, sym, ap}
use Rattle.std.specs.Map.{lookup}
use Rattle.std.specs.Str.{bytes_eq}
use Rattle.usb_enum_sysfs.proofs.MapLemmas.{lookup-keyed}
use Rattle.usb_enum_sysfs.proofs.folders.Folders.get.Goals as goal

pub returns : goal.returns
returns c = record { names = c.get.ensures.value ∙ sym (lookup-keyed c.args.folder.now c.self.inside.index.entries) ∙ ap (λ es. lookup (bytes_eq c.args.folder.now) es) c.self.view_is }
