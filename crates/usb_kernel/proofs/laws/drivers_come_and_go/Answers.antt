use Rattle.usb_kernel.proofs.CallsKept.{detach_and_claim-acts, detach-acts, attach-acts}
use Rattle.usb_kernel.proofs.laws.drivers_come_and_go.Goals as goal

pub returns : goal.returns
returns c = record {
  detach_and_claim = detach_and_claim-acts;
  detach = detach-acts;
  attach = attach-acts;
}
