use Rattle.std.proofs.Common.{◌≡◌, ◌∙◌}
use Rattle.std.specs.String.{string_bytes}
use Rattle.usb_enum_sysfs.proofs.MapLemmas.{map-copies}
use Rattle.usb_enum_sysfs.proofs.names.NamesClone.clone.Goals as goal

pub returns : goal.returns
returns c = record {
  cases = map-copies (λ name. string_bytes name) (λ name copy. string_bytes copy ≡ string_bytes name) c.self.inside.set.keys c.in_ok-set.set.keys c.in_ok-set.ensures.cases (λ name copy same. same) ∙ c.self.view_is;
}
