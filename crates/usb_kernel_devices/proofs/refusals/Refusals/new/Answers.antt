use Rattle.usb_kernel_devices.proofs.QueueLinks.{unlinked}
use Rattle.usb_kernel_devices.proofs.refusals.Refusals.new.Goals as goal

pub invariant_of-result : goal.invariant_of-result
invariant_of-result c = unlinked c.in_ok-empty_queues.field-0.items c.new.result.items c.in_ok-empty_queues.ensures.empty c.new.ensures.items
