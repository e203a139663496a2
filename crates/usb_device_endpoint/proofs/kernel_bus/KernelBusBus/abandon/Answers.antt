use Rattle.usb_device_endpoint.proofs.KernelBusLemmas.{state-without_owner}
use Rattle.usb_device_endpoint.proofs.kernel_bus.KernelBusBus.abandon.Goals as goal

pub returns-clause-state : goal.returns-clause-state
returns-clause-state c = state-without_owner c.args.self.now c.end_ticket-transfer.new.self c.spend.result c.args.p c.end_ticket-transfer.ensures.rest c.spend.ensures.ticket
