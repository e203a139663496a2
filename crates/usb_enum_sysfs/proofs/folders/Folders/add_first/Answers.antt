use Rattle.std.proofs.Common.{◌∙◌, ap}
use Rattle.std.specs.Str.{bytes_eq}
use Rattle.std.specs.String.{string_bytes}
use Rattle.indexmap.specs.IndexMap.{insert_entry}
use Rattle.usb_enum_sysfs.specs.Names.{with_name}
use Rattle.usb_enum_sysfs.proofs.MapLemmas.{keyed, keyed-insert_entry}
use Rattle.usb_enum_sysfs.proofs.folders.Folders.add_first.Goals as goal

pub returns-clause-ok : goal.returns-clause-ok
returns-clause-ok c =
    ap keyed c.in-Ok-insert.ensures.entries
    ∙ keyed-insert_entry c.in-Ok.folder c.insert.new.self c.self.inside.index.entries
    ∙ ap (λ es. insert_entry bytes_eq es (string_bytes c.in-Ok.folder) c.insert.new.self) c.self.view_is
    ∙ ap (λ key. insert_entry bytes_eq c.args.self.now key c.insert.new.self) c.in-Ok.ensures.ok
    ∙ ap (λ names. insert_entry bytes_eq c.args.self.now c.args.folder.now names) (c.in_ok-insert.ensures.ok ∙ ap (λ names. with_name names c.args.name.now) c.new-names.ensures.empty)
