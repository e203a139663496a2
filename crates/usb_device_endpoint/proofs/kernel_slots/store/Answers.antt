use Rattle.std.proofs.Common.{arith, ap, ◌≡◌, ◌∙◌}
use Rattle.usb_xfer.specs.declared.transfer.Completion.{Completion}
use Rattle.usb_kernel.specs.TransferCompletions.{completion_of}
use Rattle.usb_device_endpoint.specs.KernelBusFacts.{with_completion}
use Rattle.usb_device_endpoint.proofs.SlotLemmas.{slot_at, holds_of-kept, Agree-none, Agree-beyond, Agree-store}
use Rattle.usb_device_endpoint.proofs.kernel_slots.store.Goals as goal

pub returns-in_default-clause-agree : goal.returns-in_default-clause-agree
returns-in_default-clause-agree c = λ past next agree only. Agree-none past next c.args.slots.now.items c.args.came agree only c.in_default.is

pub returns-then-ticket-len-clause-agree : goal.returns-then-ticket-len-clause-agree
returns-then-ticket-len-clause-agree c =
    λ past next agree only. Agree-beyond past next c.args.slots.now.items c.in-Some.done c.args.came agree only c.in-Some.is (omega arith)

pub returns-clause-holds : goal.returns-clause-holds
returns-clause-holds c =
    let at = slot_at c.args.slots.now.items c.in-Some.done.ticket c.index_mut-slot.result.now (omega arith) c.index_mut-slot.ensures.value in
    holds_of-kept c.args.slots.now.items c.in-Some.done.ticket c.index_mut-slot.result.now c.keep.new.self _ at c.keep.ensures.slot

pub returns-clause-agree : goal.returns-clause-agree
returns-clause-agree c =
    λ past next agree only.
    let at = slot_at c.args.slots.now.items c.in-Some.done.ticket c.index_mut-slot.result.now (omega arith) c.index_mut-slot.ensures.value in
    let kept : c.keep.new.self ≡ with_completion c.index_mut-slot.result.now (completion_of c.in-Some.done) = c.keep.ensures.slot ∙ ap (λ (x : Completion). with_completion c.index_mut-slot.result.now x) c.completion_from-completion.ensures.completion in
    Agree-store past next c.args.slots.now.items c.in-Some.done c.args.came c.index_mut-slot.result.now c.keep.new.self agree only c.in-Some.is at kept
