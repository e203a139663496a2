use Rattle.std.proofs.Common.{◌≡◌, ◌∙◌, sym, ap, Some, None}
use Rattle.std.specs.Str.{bytes_eq}
use Rattle.std.specs.Map.{lookup}
use Rattle.indexmap.specs.IndexMap.{insert_entry}
use Rattle.indexmap.specs.Layout.{set_value_at}
use Rattle.usb_enum_sysfs.proofs.MapLemmas.{keyed, lookup-keyed, set_value_at_place, set_value_at_same, on_ok, on_err, none_from_test}
use Rattle.usb_enum_sysfs.proofs.folders.Folders.add.Goals as goal

pub returns-in_default-clause-ok : goal.returns-in_default-clause-ok
returns-in_default-clause-ok c =
    let there : lookup (bytes_eq c.args.folder.now) c.args.self.now ≡ None = ap (λ es. lookup (bytes_eq c.args.folder.now) es) (sym c.self.view_is) ∙ lookup-keyed c.args.folder.now c.self.inside.index.entries ∙ none_from_test _ (sym c.in_default.ensures.found) in
    rw there c.add_first.ensures.ok

pub returns-clause-ok : goal.returns-clause-ok
returns-clause-ok c =
    let there : lookup (bytes_eq c.args.folder.now) c.args.self.now ≡ Some c.in-Some-get_index_mut.names.now =
    ap (λ es. lookup (bytes_eq c.args.folder.now) es) (sym c.self.view_is) ∙ lookup-keyed c.args.folder.now c.self.inside.index.entries ∙ sym c.in-Some.ensures.value ∙ sym c.in-Some-get_index_mut.ensures.value in
    rw there (on_ok c.insert.result c.insert.ensures.ok (λ changed.
    set_value_at_place c.args.folder.now c.self.inside.index.entries c.in-Some.place c.insert.new.self (sym c.in-Some.ensures.index)
    ∙ ap (λ es. insert_entry bytes_eq es c.args.folder.now c.insert.new.self) c.self.view_is
    ∙ ap (λ names. insert_entry bytes_eq c.args.self.now c.args.folder.now names) changed))

pub returns-clause-err : goal.returns-clause-err
returns-clause-err c =
    on_err c.insert.result c.insert.ensures.err (λ same.
    ap (λ names. keyed (set_value_at c.self.inside.index.entries c.in-Some.place names)) same
    ∙ ap keyed (set_value_at_same c.self.inside.index.entries c.in-Some.place c.in-Some-get_index_mut.names.now (sym c.in-Some-get_index_mut.ensures.value))
    ∙ c.self.view_is)
