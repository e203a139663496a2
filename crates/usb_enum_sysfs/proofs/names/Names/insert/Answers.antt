use Rattle.std.proofs.Common.{◌∙◌, ap, map, nat_cmp}
use Rattle.std.specs.String.{string_bytes}
use Rattle.std.specs.Cmp.Lexicographic.{slice_cmp}
use Rattle.std.specs.BTreeSet.{insert_key}
use Rattle.usb_enum_sysfs.proofs.MapLemmas.{map-insert_key}
use Rattle.usb_enum_sysfs.proofs.names.Names.insert.Goals as goal

pub returns-clause-ok : goal.returns-clause-ok
returns-clause-ok c =
    ap (λ names. map (λ n. string_bytes n) names) c.in-Ok-insert.ensures.keys
    ∙ map-insert_key c.in-Ok.name c.self.inside.set.keys
    ∙ ap (λ names. insert_key (slice_cmp nat_cmp) names (string_bytes c.in-Ok.name)) c.self.view_is
    ∙ ap (λ name. insert_key (slice_cmp nat_cmp) c.args.self.now name) c.in-Ok.ensures.ok
