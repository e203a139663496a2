use Rattle.std.proofs.Common.{sym, ap, ◌∙◌, arith}
use Rattle.usb_kernel_devices.specs.Refusals.{armed_errno}
use Rattle.usb_kernel_devices.specs.RefusalsState.{RefusalsState}
use Rattle.usb_kernel_devices.proofs.QueueLinks.{first-within, none-armed, first-armed, errno-known, unarmed}
use Rattle.usb_kernel_devices.proofs.refusals.Refusals.errno.Goals as goal

pub index-arming-requires : goal.index-arming-requires
index-arming-requires c =
    omega (arith, c.self.inside.log.ok, first-within c.self.inside.queues.items c.self.inside.log.items c.kind.result c.in-Some.first c.index-queue.result.now c.kind.ensures.small c.self.invariant c.index-queue.ensures c.in-Some.is)

pub returns-in-Some-clause-errno : goal.returns-in-Some-clause-errno
returns-in-Some-clause-errno c =
    let first = first-armed c.self.inside.queues.items c.self.inside.log.items c.args.device c.args.call c.kind.result c.index-queue.result.now c.kind.ensures.kind c.kind.ensures.small c.self.invariant c.index-queue.ensures c.in-Some.first c.index-arming.result.now c.in-Some.is c.index-arming.ensures in
    sym first ∙ ap (λ (r : RefusalsState). armed_errno r.armed c.args.device c.args.call) c.self.view_is

pub returns-in-Some-clause-known : goal.returns-in-Some-clause-known
returns-in-Some-clause-known c = λ all. errno-known c.args.self.now.armed c.args.device c.args.call c.index-arming.result.now.refusal.errno (sym (returns-in-Some-clause-errno c)) all

pub returns-in-None-clause-errno : goal.returns-in-None-clause-errno
returns-in-None-clause-errno c =
    let none = none-armed c.self.inside.queues.items c.self.inside.log.items c.args.device c.args.call c.kind.result c.index-queue.result.now c.kind.ensures.kind c.kind.ensures.small c.self.invariant c.index-queue.ensures c.in-None.is in
    sym none ∙ ap (λ (r : RefusalsState). armed_errno r.armed c.args.device c.args.call) c.self.view_is

pub returns-in-None-clause-none : goal.returns-in-None-clause-none
returns-in-None-clause-none c = unarmed c.args.self.now.armed c.args.device c.args.call (sym (returns-in-None-clause-errno c))
