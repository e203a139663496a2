use Rattle.std.proofs.Common.{sym, arith}
use Rattle.usb_kernel_devices.proofs.QueueLinks.{dequeued-code, first-within, none-disarmed, first-disarmed}
use Rattle.usb_kernel_devices.proofs.refusals.dequeue.Goals as goal

pub returns-in_default-clause-unused : goal.returns-in_default-clause-unused
returns-in_default-clause-unused c =
    sym (none-disarmed c.args.queues.now.items c.args.log.now.items c.args.device c.args.call c.kind-at.result c.index-queue.result.now c.kind-at.ensures.kind c.kind-at.ensures.small c.requires.linked c.index-queue.ensures c.in_default.is)

pub index_mut-arming-requires : goal.index_mut-arming-requires
index_mut-arming-requires c =
    omega (arith, c.args.log.now.ok, first-within c.args.queues.now.items c.args.log.now.items c.kind-at.result c.in-Some.first c.index-queue.result.now c.kind-at.ensures.small c.requires.linked c.index-queue.ensures c.in-Some.is)

pub returns-clause-linked : goal.returns-clause-linked
returns-clause-linked c =
    dequeued-code c.args.queues.now.items c.args.log.now.items c.kind-at.result c.in-Some.first c.index-queue.result.now c.index_mut-arming.result.now c.kind-at.ensures.small c.requires.linked c.index-queue.ensures c.in-Some.is c.index_mut-arming.ensures.value

pub returns-clause-unused : goal.returns-clause-unused
returns-clause-unused c =
    first-disarmed c.args.queues.now.items c.args.log.now.items c.args.device c.args.call c.kind-at.result c.index-queue.result.now c.kind-at.ensures.kind c.kind-at.ensures.small c.requires.linked c.index-queue.ensures c.in-Some.first c.index_mut-arming.result.now c.in-Some.is c.index_mut-arming.ensures.value
