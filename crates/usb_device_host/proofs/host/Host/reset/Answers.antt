use Rattle.std.proofs.Common.{◌≡◌, ◌<◌, ◌∙◌, ap, sym, arith, length}
use Rattle.usb_kernel.specs.Calls.{after_reset}
use Rattle.usb_kernel.specs.Value.{KernelState}
use Rattle.usb_device_host.specs.HostState.{HostState}
use Rattle.usb_device_host.proofs.ArrivalLemmas.{TicketsAgree-at}
use Rattle.usb_device_tables.specs.History.{value_at}
use Rattle.usb_device_tables.proofs.ValueLemmas.{some-of}
use Rattle.usb_device_host.proofs.CalledHosts.{reset-agree, reset-spare, kernel-put, reset-at}
use Rattle.usb_device_host.proofs.host.Host.reset.Goals as goal

pub invariant_of-self : goal.invariant_of-self
invariant_of-self c =
    let k = c.self.inside.kernel in
    let l = c.self.inside.ledger in
    let n = c.number_of-number.result in
    let left : length c.self.inside.steps.items < k.spare = rw (← c.self.view_is) at c.requires.room in
    let spare : c.reset.new.self.spare ≡ (after_reset k n).spare = ap (λ (x : KernelState). x.spare) c.reset.ensures.rest in
    record {
      agree = TicketsAgree-at (after_reset k n).past c.reset.new.self.past l.slots (ap (λ (x : KernelState). x.past) c.reset.ensures.rest) (reset-agree k n l.slots c.self.invariant.agree);
      room = omega (arith, reset-spare k n, spare, left);
      errnos = c.self.invariant.errnos;
    }

pub returns-clause-host : goal.returns-clause-host
returns-clause-host c =
    let now = c.args.self.now in
    let inside = c.self.inside in
    let there = some-of (value_at now.devices c.args.device.serial) c.requires.device in
    let o = there.0 in
    let kernel : c.reset.new.self ≡ after_reset now.kernel o.device =
    c.reset.ensures.rest ∙ ap (after_reset inside.kernel) (c.number_of-number.ensures.number o there.1) ∙ ap (λ (h : HostState). after_reset h.kernel o.device) c.self.view_is in
    kernel-put inside.kernel inside.devices inside.ledger inside.steps.items now c.reset.new.self _ c.self.view_is kernel ∙ sym (reset-at now c.args.device.serial o there.1)
