use Rattle.usb_kernel.proofs.ArmedLemmas.{unplugged-refused, armed-first, armed-once, others-armed, refused-changes_none}
use Rattle.usb_kernel.proofs.laws.refusals_come_first.Goals as goal

pub returns : goal.returns
returns c = record {
  unplugged = unplugged-refused;
  first = armed-first;
  once = armed-once;
  others = others-armed;
  refused = refused-changes_none;
}
