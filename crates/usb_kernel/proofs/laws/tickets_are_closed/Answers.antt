use Rattle.usb_kernel.proofs.OpenLists.{open-discard, open-reap, open-unplug, open-unplug_other}
use Rattle.usb_kernel.proofs.laws.tickets_are_closed.Goals as goal

pub returns : goal.returns
returns c = record {
  discard = open-discard;
  reap = open-reap;
  unplug = open-unplug;
  unplug_others = open-unplug_other;
}
