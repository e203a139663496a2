use Rattle.std.proofs.Common.{None, ◌∙◌, ap, arith}
use Rattle.usb_kernel.specs.Submits.{submit_refusal}
use Rattle.usb_device_host.specs.HostCalls.{host_submitted}
use Rattle.usb_device_host.proofs.BusLemmas.{submitted-state, submitted-left, some-buffer}
use Rattle.usb_device_host.proofs.host.HostBus.submit.Goals as goal

pub returns-in-Ok-clause-state : goal.returns-in-Ok-clause-state
returns-in-Ok-clause-state c = λ b some.
    let old = c.args.self.now in
    let made = c.in-Ok.ensures.ok ∙ ap (host_submitted old c.args.to None) c.into_inner.ensures.value in
    (submit_refusal old.kernel.devices old.kernel.armed c.args.to.device, submitted-state old c.submit_transfer.new.self c.args.to None c.args.t b c.submit_transfer.ensures.count made some c.in-Ok.ensures.known)

pub returns-in-Ok-clause-left : goal.returns-in-Ok-clause-left
returns-in-Ok-clause-left c = λ input.
    let old = c.args.self.now in
    let made = c.in-Ok.ensures.ok ∙ ap (host_submitted old c.args.to None) c.into_inner.ensures.value in
    let b = some-buffer c.args.t c.requires.goes.filled in
    let same = submitted-left old c.submit_transfer.new.self c.args.to None c.args.t b.0 made b.1 in
    omega (arith, same)
