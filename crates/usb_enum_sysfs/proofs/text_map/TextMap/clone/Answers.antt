use Rattle.std.proofs.Common.{◌∙◌}
use Rattle.usb_enum_sysfs.proofs.MapLemmas.{keyed-copies}
use Rattle.usb_enum_sysfs.proofs.text_map.TextMap.clone.Goals as goal

pub returns : goal.returns
returns g c = record {
  same = λ same. keyed-copies g.V.Clone.is_clone c.self.inside.index.entries c.in_ok-index.index.entries c.in_ok-index.ensures.cases same ∙ c.self.view_is;
}
