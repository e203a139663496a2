use Rattle.std.proofs.Common.{◌≡◌, ◌∙◌, ap, refl, None}
use Rattle.usb_kernel.specs.Value.{KernelState}
use Rattle.usb_kernel.specs.Timers.{timer_turned}
use Rattle.usb_device_endpoint.proofs.SlotLemmas.{Agree-at, Agree-none, completes-timer}
use Rattle.usb_device_endpoint.proofs.kernel_bus.KernelBus.raise_clock.Goals as goal

pub invariant_of-self : goal.invariant_of-self
invariant_of-self c =
    let past = c.self.inside.kernel.past in
    let clock = c.idle.new.self.clock in
    let slots = c.self.inside.slots.items in
    let same : c.timer_turn.new.self.past ≡ timer_turned clock past = c.timer_turn.ensures.past ∙ ap (timer_turned clock) (ap (λ (k : KernelState). k.past) c.idle.ensures.rest) in
    record { slots = Agree-at (timer_turned clock past) c.timer_turn.new.self.past slots slots same refl (Agree-none past (timer_turned clock past) slots None c.self.invariant.slots (completes-timer clock past) refl) }
