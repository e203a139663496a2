use Rattle.usb_kernel.proofs.CallsKept.{reset-unplug, refused-reset, reset-unplugs}
use Rattle.usb_kernel.proofs.laws.resets_are_unplugs.Goals as goal

pub returns : goal.returns
returns c = record {
  acts = reset-unplug;
  refused = refused-reset;
  unplugged = reset-unplugs;
}
