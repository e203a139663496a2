use Rattle.std.proofs.Common.{◌≡◌, ◌<◌, ◌∙◌, refl, arith, length}
use Rattle.usb_kernel.specs.Steps.{after_step}
use Rattle.usb_kernel.specs.TransferCompletions.{CompletesOnly}
use Rattle.usb_device_host.specs.HostTurns.{host_stepped}
use Rattle.usb_device_host.proofs.ArrivalLemmas.{kernel-same, CompletesOnly-step}
use Rattle.usb_device_host.proofs.host.Host.step.Goals as goal

pub invariant_of-self : goal.invariant_of-self
invariant_of-self c =
    let k = c.self.inside.kernel in
    let comes : CompletesOnly k.past c.step_once-arrived.new.self.past c.step_once-arrived.result = rw (c.step_once-arrived.ensures.past, c.step_once-arrived.ensures.done) (CompletesOnly-step k.devices k.clock k.past c.args.step) in
    let room : length c.self.inside.steps.items < k.spare = rw (← c.self.view_is) at c.requires.room in
    record {
      agree = c.complete.ensures.agree k.past c.self.invariant.agree comes;
      room = omega (arith, c.complete.ensures.spare, c.step_once-arrived.ensures.spare, room);
      errnos = c.self.invariant.errnos;
    }

pub returns : goal.returns
unfolding host_stepped
returns c =
    let k = c.self.inside.kernel in
    let after : c.step_once-arrived.new.self ≡ after_step k c.args.step = kernel-same c.step_once-arrived.new.self (after_step k c.args.step) c.step_once-arrived.ensures.past c.step_once-arrived.ensures.devices c.step_once-arrived.ensures.clock c.step_once-arrived.ensures.armed (omega (arith, c.step_once-arrived.ensures.spare)) in
    record { stepped = c.complete.ensures.host c.self.inside.devices c.self.inside.steps.items ∙ rw (after, c.step_once-arrived.ensures.done, ← c.self.view_is) refl }
