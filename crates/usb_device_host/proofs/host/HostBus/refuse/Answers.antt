use Rattle.std.proofs.Common.{◌∙◌, ap, arith}
use Rattle.usb_device_host.specs.HostCalls.{host_refused}
use Rattle.usb_device_host.proofs.BusLemmas.{refused-state, refused-left, some-buffer}
use Rattle.usb_device_host.proofs.host.HostBus.refuse.Goals as goal

pub returns-in-Ok-clause-state : goal.returns-in-Ok-clause-state
returns-in-Ok-clause-state c = λ b some.
    let old = c.args.self.now in
    let made = c.in-Ok.ensures.ok ∙ ap (λ t. host_refused old c.args.to t c.args.errno) c.into_inner.ensures.value in
    refused-state old c.refuse_transfer.new.self c.args.to c.args.t c.args.errno b c.refuse_transfer.ensures.count made some c.requires.errno

pub returns-in-Ok-clause-left : goal.returns-in-Ok-clause-left
returns-in-Ok-clause-left c =
    let old = c.args.self.now in
    let made = c.in-Ok.ensures.ok ∙ ap (λ t. host_refused old c.args.to t c.args.errno) c.into_inner.ensures.value in
    let b = some-buffer c.args.t c.requires.goes.filled in
    let same = refused-left old c.refuse_transfer.new.self c.args.to c.args.t c.args.errno b.0 made b.1 in
    omega (arith, same)
