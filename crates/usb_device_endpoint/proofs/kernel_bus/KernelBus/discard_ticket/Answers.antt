use Rattle.std.proofs.Common.{refl, None}
use Rattle.usb_kernel.specs.Steps.{after_discard}
use Rattle.usb_device_endpoint.proofs.SlotLemmas.{Agree-at, Agree-none, completes-discard}
use Rattle.usb_device_endpoint.proofs.kernel_bus.KernelBus.discard_ticket.Goals as goal

pub invariant_of-self : goal.invariant_of-self
invariant_of-self c =
    let past = c.self.inside.kernel.past in
    let slots = c.self.inside.slots.items in
    record {
      slots = Agree-at (after_discard past c.args.ticket) c.discard.new.self.past slots slots c.discard.ensures.past refl (Agree-none past (after_discard past c.args.ticket) slots None c.self.invariant.slots (completes-discard past c.args.ticket) refl);
    }
