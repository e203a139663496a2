use Rattle.std.proofs.Common.{◌≡◌, ◌∙◌, ap, refl, arith}
use Rattle.usb_kernel.specs.Value.{KernelState}
use Rattle.usb_kernel.specs.Steps.{after_reap}
use Rattle.usb_kernel.specs.TransferCompletions.{CompletesOnly}
use Rattle.usb_device_host.specs.HostTurns.{host_reaped}
use Rattle.usb_device_host.proofs.ArrivalLemmas.{CompletesOnly-reap}
use Rattle.usb_device_host.proofs.host.Host.reap.Goals as goal

pub invariant_of-self : goal.invariant_of-self
invariant_of-self c =
    let k = c.self.inside.kernel in
    let comes : CompletesOnly k.past c.reap-arrived.new.self.past c.reap-arrived.result = rw (c.reap-arrived.ensures.past, c.reap-arrived.ensures.done) (CompletesOnly-reap k.past c.args.ticket) in
    record {
      agree = c.complete.ensures.agree k.past c.self.invariant.agree comes;
      room = omega (arith, c.complete.ensures.spare, ap (λ (x : KernelState). x.spare) c.reap-arrived.ensures.rest, c.self.invariant.room);
      errnos = c.self.invariant.errnos;
    }

pub returns : goal.returns
unfolding host_reaped
returns c =
    let k = c.self.inside.kernel in
    let after : c.reap-arrived.new.self ≡ record k { past = after_reap k.past c.args.ticket } = c.reap-arrived.ensures.rest ∙ ap (λ p. record k { past = p }) c.reap-arrived.ensures.past in
    record { reaped = c.complete.ensures.host c.self.inside.devices c.self.inside.steps.items ∙ rw (after, c.reap-arrived.ensures.done, ← c.self.view_is) refl }
