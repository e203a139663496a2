use Rattle.std.proofs.Common.{◌∙◌, ap}
use Rattle.std.specs.Str.{bytes_eq}
use Rattle.std.specs.String.{string_bytes}
use Rattle.indexmap.specs.IndexMap.{insert_entry}
use Rattle.usb_enum_sysfs.proofs.MapLemmas.{keyed, keyed-insert_entry}
use Rattle.usb_enum_sysfs.proofs.text_map.TextMap.put.Goals as goal

pub returns-in-Ok-insert-clause-ok : goal.returns-in-Ok-insert-clause-ok
returns-in-Ok-insert-clause-ok g c =
    ap keyed c.in-Ok-insert.ensures.entries
    ∙ keyed-insert_entry c.in-Ok.key c.args.value c.self.inside.index.entries
    ∙ ap (λ es. insert_entry bytes_eq es (string_bytes c.in-Ok.key) c.args.value) c.self.view_is
    ∙ ap (λ key. insert_entry bytes_eq c.args.self.now key c.args.value) c.in-Ok.ensures.ok
