use Rattle.std.proofs.Common.{refl, ◌∙◌}
use Rattle.usb_kernel_devices.proofs.refusals.empty_queues.Goals as goal

pub returns-in-Ok : goal.returns-in-Ok
returns-in-Ok c = record { empty = c.in-Ok.ensures.items ∙ rw (c.new-queues.ensures.items, c.new-queues.ensures.len) refl }
