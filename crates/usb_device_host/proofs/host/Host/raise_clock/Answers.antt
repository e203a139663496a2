use Rattle.std.proofs.Common.{◌≡◌, ap, ◌∙◌, arith}
use Rattle.usb_kernel.specs.Value.{KernelState}
use Rattle.usb_kernel.specs.Timers.{timer_turned}
use Rattle.usb_device_host.proofs.ArrivalLemmas.{CompletesOnly-timer, TicketsAgree-none, TicketsAgree-at}
use Rattle.usb_device_host.proofs.host.Host.raise_clock.Goals as goal

pub invariant_of-self : goal.invariant_of-self
invariant_of-self c =
    let k = c.self.inside.kernel in
    let clock = c.idle.new.self.clock in
    let slots = c.self.inside.ledger.slots in
    let same : c.timer_turn.new.self.past ≡ timer_turned clock k.past = c.timer_turn.ensures.past ∙ ap (timer_turned clock) (ap (λ (x : KernelState). x.past) c.idle.ensures.rest) in
    record {
      agree = TicketsAgree-at (timer_turned clock k.past) c.timer_turn.new.self.past slots same (TicketsAgree-none k.past (timer_turned clock k.past) slots c.self.invariant.agree (CompletesOnly-timer clock k.past));
      room = omega (arith, ap (λ (x : KernelState). x.spare) c.timer_turn.ensures.rest, ap (λ (x : KernelState). x.spare) c.idle.ensures.rest, c.self.invariant.room);
      errnos = c.self.invariant.errnos;
    }
