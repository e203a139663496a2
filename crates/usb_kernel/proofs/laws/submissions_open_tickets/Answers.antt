use Rattle.usb_kernel.proofs.OpenLists.{open-submit, open-submit_other, open-refuse}
use Rattle.usb_kernel.proofs.laws.submissions_open_tickets.Goals as goal

pub returns : goal.returns
returns c = record {
  own = open-submit;
  others = open-submit_other;
  refused = open-refuse;
}
