use Rattle.std.proofs.Common.{refl}
use Rattle.usb_kernel.specs.Steps.{after_reap}
use Rattle.usb_device_endpoint.proofs.SlotLemmas.{Agree-at, completes-reap}
use Rattle.usb_device_endpoint.proofs.kernel_bus.KernelBus.take_turn.Goals as goal

pub invariant_of-self : goal.invariant_of-self
invariant_of-self c =
    let past = c.self.inside.kernel.past in
    let later = after_reap past c.in-Some.ticket in
    record {
      slots = Agree-at later c.reap-done.new.self.past c.store.new.slots.items c.store.new.slots.items c.reap-done.ensures.past refl (c.store.ensures.agree past later c.self.invariant.slots (completes-reap past c.in-Some.ticket c.reap-done.result c.reap-done.ensures.done));
    }
