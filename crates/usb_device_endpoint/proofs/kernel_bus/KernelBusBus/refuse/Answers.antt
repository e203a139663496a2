use Rattle.std.proofs.Common.{ap, ◌∙◌, refl}
use Rattle.usb_xfer.specs.declared.transfer.TransferData.{TransferData}
use Rattle.usb_xfer.specs.Transfers.{buffer_held}
use Rattle.usb_device_endpoint.proofs.KernelBusLemmas.{refused-state, refused-left}
use Rattle.usb_device_endpoint.proofs.kernel_bus.KernelBusBus.refuse.Goals as goal

pub returns-in-Ok-clause-state : goal.returns-in-Ok-clause-state
returns-in-Ok-clause-state c =
    λ b some.
    refused-state c.args.self.now c.refuse_transfer.new.self c.args.to c.into_inner.result c.args.errno b c.refuse_transfer.ensures.holds c.in-Ok.ensures.ok (ap (λ (t : TransferData). buffer_held t.held) c.into_inner.ensures.value ∙ some) c.requires.errno

pub returns-in-Ok-clause-left : goal.returns-in-Ok-clause-left
returns-in-Ok-clause-left c = refused-left c.args.self.now c.refuse_transfer.new.self c.args.to c.into_inner.result c.args.errno _ refl c.in-Ok.ensures.ok
