use Rattle.std.proofs.Common.{ap, ◌∙◌, arith}
use Rattle.usb_kernel.specs.Value.{KernelState}
use Rattle.usb_device_host.specs.HostCalls.{host_left}
use Rattle.usb_device_ledger.specs.LedgerState.{LedgerState}
use Rattle.usb_device_host.proofs.HostCallLemmas.{OpenEndpoint, open-at, left-made}
use Rattle.usb_device_host.proofs.host.Host.leave_endpoint.Goals as goal

pub invariant_of-self : goal.invariant_of-self
invariant_of-self c =
    let k = c.self.inside.kernel in
    let l = c.self.inside.ledger in
    let w : OpenEndpoint l.endpoints c.args.key = open-at l.endpoints c.args.key (rw (← c.self.view_is) at c.requires.key) in
    let ledger = c.leave-ended.ensures.endpoints w.e w.at in
    let slots = ap (λ (x : LedgerState). x.slots) ledger in
    let past = ap (λ (x : KernelState). x.past) c.release.ensures.rest in
    record {
      agree = rw (slots, past) c.self.invariant.agree;
      room = omega (arith, ap (λ (x : KernelState). x.spare) c.release.ensures.rest, c.self.invariant.room);
      errnos = c.self.invariant.errnos;
    }

pub returns : goal.returns
returns c =
    let k = c.self.inside.kernel in
    let l = c.self.inside.ledger in
    let w : OpenEndpoint l.endpoints c.args.key = open-at l.endpoints c.args.key (rw (← c.self.view_is) at c.requires.key) in
    let ledger = c.leave-ended.ensures.endpoints w.e w.at in
    record { left = left-made k c.self.inside.devices l c.self.inside.steps.items c.args.key w c.leave-ended.new.self c.leave-ended.result c.release.new.kernel ledger (c.leave-ended.ensures.claim w.e w.at) c.release.ensures.kernel ∙ ap (λ h. host_left h c.args.key) c.self.view_is }
