use Rattle.usb_kernel.proofs.Final.{reaped_is_final}
use Rattle.usb_kernel.proofs.Extends.{completion-event}
use Rattle.usb_kernel.proofs.laws.reaped_is_final.Goals as goal

pub returns : goal.returns
returns c = record {
  fate = reaped_is_final;
  completion = completion-event;
}
