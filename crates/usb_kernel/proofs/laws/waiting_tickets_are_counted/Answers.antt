use Rattle.usb_kernel.proofs.Waiting.{waiting-few, waiting-reap, waiting-one_less, waiting-submit, waiting-refuse, waiting-more}
use Rattle.usb_kernel.proofs.laws.waiting_tickets_are_counted.Goals as goal

pub returns : goal.returns
returns c = record {
  few = waiting-few;
  reap = waiting-reap;
  one_less = waiting-one_less;
  submit = waiting-submit;
  refuse = waiting-refuse;
  others = waiting-more;
}
