use Rattle.std.proofs.Common.{◌≡◌, ◌∙◌}
use Rattle.usb_enum_sysfs.proofs.MapLemmas.{keyed-copies}
use Rattle.usb_enum_sysfs.proofs.folders.Folders.clone.Goals as goal

pub returns : goal.returns
returns c = record {
  same = keyed-copies (λ names copy. copy ≡ names) c.self.inside.index.entries c.in_ok-index.index.entries c.in_ok-index.ensures.cases (λ names copy same. same) ∙ c.self.view_is;
}
