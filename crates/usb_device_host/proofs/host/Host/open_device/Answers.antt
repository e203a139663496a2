use Rattle.std.proofs.Common.{arith, ◌≡◌, Ok, Err, ap, ◌∙◌}
use Rattle.usb_kernel.specs.Value.{KernelState}
use Rattle.usb_device_host.specs.HostState.{HostState}
use Rattle.usb_device_host.specs.HostFacts.{host_made}
use Rattle.usb_device_host.specs.Opens.{open_tried}
use Rattle.usb_device_host.proofs.OpeningLemmas.{opened-key, opened-leaves, open-refused, refused-leaves, left-arms}
use Rattle.usb_device_host.proofs.host.Host.open_device.Goals as goal

pub returns-in-Ok-clause-tried : goal.returns-in-Ok-clause-tried
returns-in-Ok-clause-tried c =
    let tried : (open_tried c.args.bus c.args.address c.args.self.now.kernel).answer ≡ Ok c.in-Ok.opened = rw (← c.self.view_is) c.in-Ok.ensures.tried in
    opened-key c.args.self.now c.args.bus c.args.address c.in-Ok.opened c.keep_device.result tried (rw (← c.self.view_is) c.keep_device.ensures.key) c.keep_device.ensures.memory

pub returns-in-Err-clause-tried : goal.returns-in-Err-clause-tried
returns-in-Err-clause-tried c = open-refused c.args.self.now c.args.bus c.args.address c.in-Err.error (rw (← c.self.view_is) c.in-Err.ensures.tried)

pub returns-in-Err-clause-host : goal.returns-in-Err-clause-host
returns-in-Err-clause-host c =
    refused-leaves c.args.self.now _ c.open_at.new.kernel c.args.bus c.args.address c.in-Err.error (rw (← c.self.view_is) c.in-Err.ensures.tried)
    (ap (λ (h : HostState). record h { kernel = c.open_at.new.kernel }) c.self.view_is) (rw (← c.self.view_is) c.in-Err.ensures.kernel)

pub returns-in-Ok-clause-host : goal.returns-in-Ok-clause-host
returns-in-Ok-clause-host c =
    let now = c.args.self.now in
    let before = c.self.inside in
    let tried : (open_tried c.args.bus c.args.address now.kernel).answer ≡ Ok c.in-Ok.opened = rw (← c.self.view_is) c.in-Ok.ensures.tried in
    let made =
    ap (λ k. host_made k before.devices before.ledger before.steps.items) c.in-Ok.ensures.kernel
    ∙ ap (λ (h : HostState). record h { kernel = (open_tried c.args.bus c.args.address h.kernel).kernel }) c.self.view_is in
    opened-leaves now _ c.keep_device.new.self c.args.bus c.args.address c.in-Ok.opened c.keep_device.result tried made c.keep_device.ensures.ok c.keep_device.ensures.err c.keep_device.ensures.memory

pub invariant_of-self : goal.invariant_of-self
invariant_of-self c =
    let rest = left-arms (Ok c.in-Ok.opened) c.open_at.new.kernel c.self.inside.kernel c.args.bus c.args.address c.in-Ok.ensures.kernel in
    record {
      agree = rw (ap (λ (k : KernelState). k.past) rest) c.self.invariant.agree;
      room = omega (arith, ap (λ (k : KernelState). k.spare) rest, c.self.invariant.room);
      errnos = c.self.invariant.errnos;
    }

pub invariant_of-self-in-Err : goal.invariant_of-self-in-Err
invariant_of-self-in-Err c =
    let rest = left-arms (Err c.in-Err.error) c.open_at.new.kernel c.self.inside.kernel c.args.bus c.args.address c.in-Err.ensures.kernel in
    record {
      agree = rw (ap (λ (k : KernelState). k.past) rest) c.self.invariant.agree;
      room = omega (arith, ap (λ (k : KernelState). k.spare) rest, c.self.invariant.room);
      errnos = c.self.invariant.errnos;
    }
