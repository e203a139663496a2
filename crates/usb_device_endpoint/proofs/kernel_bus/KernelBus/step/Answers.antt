use Rattle.std.proofs.Common.{refl}
use Rattle.usb_kernel.specs.Steps.{stepped}
use Rattle.usb_device_endpoint.proofs.SlotLemmas.{Agree-at, completes-step}
use Rattle.usb_device_endpoint.proofs.kernel_bus.KernelBus.step.Goals as goal

pub invariant_of-self : goal.invariant_of-self
invariant_of-self c =
    let kernel = c.self.inside.kernel in
    let later = stepped kernel.devices kernel.clock kernel.past c.args.step in
    record {
      slots = Agree-at later c.step_once-done.new.self.past c.store.new.slots.items c.store.new.slots.items c.step_once-done.ensures.past refl (c.store.ensures.agree kernel.past later c.self.invariant.slots (completes-step kernel.devices kernel.clock kernel.past c.args.step c.step_once-done.result c.step_once-done.ensures.done));
    }
