use Rattle.std.proofs.Common.{sym, ap, subst}
use Rattle.std.specs.List.{All}
use Rattle.usb_kernel_devices.specs.Refusals.{HasArmedErrno}
use Rattle.usb_kernel_devices.specs.Queues.{unused}
use Rattle.usb_kernel_devices.specs.RefusalsState.{RefusalsState}
use Rattle.usb_kernel_devices.proofs.QueueLinks.{All-disarmed}
use Rattle.usb_kernel_devices.proofs.refusals.Refusals.disarm.Goals as goal

pub returns-clause-errnos : goal.returns-clause-errnos
returns-clause-errnos c =
    let before = ap (λ (r : RefusalsState). r.armed) c.self.view_is in
    λ all. subst (All HasArmedErrno) (sym c.dequeue.ensures.unused) (All-disarmed (unused c.self.inside.log.items) c.args.device c.args.call (subst (All HasArmedErrno) (sym before) all))
