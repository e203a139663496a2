use Rattle.std.proofs.Common.{◌++◌, ◌∷◌, [], ◌∙◌, ap, arith}
use Rattle.usb_kernel_devices.specs.Queues.{unused, fresh_arming}
use Rattle.usb_kernel_devices.proofs.QueueLinks.{enqueued-code, last-within, unused-behind}
use Rattle.usb_kernel_devices.proofs.QueueLemmas.{unused-append}
use Rattle.usb_kernel_devices.proofs.refusals.enqueue.Goals as goal

pub link-requires : goal.link-requires
link-requires c =
    record { last = λ some. omega (arith, c.args.log.now.ok, last-within c.args.queues.now.items c.args.log.now.items c.kind-at.result c.index-queue.result.now c.kind-at.ensures.small c.requires.linked c.index-queue.ensures some) }

pub returns-clause-linked : goal.returns-clause-linked
returns-clause-linked c =
    enqueued-code c.args.queues.now.items c.args.log.now.items c.append.new.log.items c.kind-at.result c.len-place.result c.unwrap_or.result c.args.refusal c.index-queue.result.now c.kind-at.ensures.kind c.kind-at.ensures.small (omega (arith, c.args.log.now.ok, c.len-place.ensures)) c.unwrap_or.ensures (c.append.ensures.items ∙ ap (λ xs. xs ++ fresh_arming c.args.refusal ∷ []) c.link.ensures.items) c.requires.linked c.index-queue.ensures

pub returns-clause-unused : goal.returns-clause-unused
returns-clause-unused c =
    ap unused c.append.ensures.items ∙ unused-append c.link.new.log.items c.args.refusal ∙ ap (λ xs. unused xs ++ c.args.refusal ∷ []) c.link.ensures.items ∙ ap (λ xs. xs ++ c.args.refusal ∷ []) (unused-behind c.args.log.now.items c.index-queue.result.now.first c.index-queue.result.now.last c.len-place.result)
