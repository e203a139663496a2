use Rattle.usb_kernel.proofs.Order.{ordered}
use Rattle.usb_kernel.proofs.laws.later_are_untouched.Goals as goal

pub returns : goal.returns
returns c = record {
  law = ordered;
}
