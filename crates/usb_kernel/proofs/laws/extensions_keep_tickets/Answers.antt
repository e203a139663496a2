use Rattle.usb_kernel.proofs.Extends.{ticket-stays, status-stays, reaped-stays, completion-stays}
use Rattle.usb_kernel.proofs.laws.extensions_keep_tickets.Goals as goal

pub returns : goal.returns
returns c = record {
  ticket = ticket-stays;
  status = status-stays;
  fate = reaped-stays;
  completion = completion-stays;
}
