use Rattle.usb_kernel.specs.Submits.{submit_refusal}
use Rattle.usb_device_endpoint.proofs.SlotLemmas.{Agree-entered}
use Rattle.usb_device_endpoint.proofs.kernel_bus.KernelBus.submit_transfer.Goals as goal

pub invariant_of-self-in-Ok : goal.invariant_of-self-in-Ok
invariant_of-self-in-Ok c =
    let kernel = c.self.inside.kernel in
    let sub = c.submission.result in
    record {
      slots = Agree-entered kernel.past c.submit.new.self.past c.self.inside.slots.items c.reserve.new.self.items c.add_slot.new.slots.items sub (submit_refusal kernel.devices kernel.armed sub.device) c.args.to.key c.take_buffer-buffer.new.self c.in-Ok.submitted c.self.invariant.slots c.in-Ok.ensures.past c.reserve.ensures.items c.in-Ok.ensures.submitted c.add_slot.ensures.items;
    }
