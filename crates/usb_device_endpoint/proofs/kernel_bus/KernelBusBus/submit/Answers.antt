use Rattle.std.proofs.Common.{None, ap, ◌∙◌, refl}
use Rattle.usb_xfer.specs.declared.transfer.TransferData.{TransferData}
use Rattle.usb_xfer.specs.Transfers.{buffer_held}
use Rattle.usb_device_endpoint.proofs.KernelBusLemmas.{submitted-state, submitted-left}
use Rattle.usb_device_endpoint.proofs.kernel_bus.KernelBusBus.submit.Goals as goal

pub returns-in-Ok-clause-state : goal.returns-in-Ok-clause-state
returns-in-Ok-clause-state c =
    λ b some.
    submitted-state c.args.self.now c.submit_transfer.new.self c.args.to None c.into_inner.result b c.submit_transfer.ensures.holds c.in-Ok.ensures.ok (ap (λ (t : TransferData). buffer_held t.held) c.into_inner.ensures.value ∙ some) c.in-Ok.ensures.known

pub returns-in-Ok-clause-left : goal.returns-in-Ok-clause-left
returns-in-Ok-clause-left c = λ input. submitted-left c.args.self.now c.submit_transfer.new.self c.args.to None c.into_inner.result _ refl c.in-Ok.ensures.ok
