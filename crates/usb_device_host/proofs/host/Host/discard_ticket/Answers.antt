use Rattle.std.proofs.Common.{◌≡◌, ap, refl, ◌∙◌, arith}
use Rattle.usb_kernel.specs.Value.{KernelState}
use Rattle.usb_kernel.specs.Steps.{after_discard}
use Rattle.usb_device_host.specs.HostCalls.{host_discarded}
use Rattle.usb_device_host.proofs.ArrivalLemmas.{CompletesOnly-discard, TicketsAgree-none, TicketsAgree-at}
use Rattle.usb_device_host.proofs.host.Host.discard_ticket.Goals as goal

pub invariant_of-self : goal.invariant_of-self
invariant_of-self c =
    let k = c.self.inside.kernel in
    record {
      agree = TicketsAgree-at (after_discard k.past c.args.ticket) c.discard.new.self.past c.self.inside.ledger.slots c.discard.ensures.past (TicketsAgree-none k.past (after_discard k.past c.args.ticket) c.self.inside.ledger.slots c.self.invariant.agree (CompletesOnly-discard k.past c.args.ticket));
      room = omega (arith, ap (λ (x : KernelState). x.spare) c.discard.ensures.rest, c.self.invariant.room);
      errnos = c.self.invariant.errnos;
    }

pub returns : goal.returns
unfolding host_discarded
returns c =
    let k = c.self.inside.kernel in
    let after : c.discard.new.self ≡ record k { past = after_discard k.past c.args.ticket } = c.discard.ensures.rest ∙ ap (λ p. record k { past = p }) c.discard.ensures.past in
    record { discarded = rw (after, ← c.self.view_is) refl }
