use Rattle.std.proofs.Common.{ap, sym, ◌∙◌, Some}
use Rattle.usb_xfer.specs.declared.transfer.TransferData.{TransferData}
use Rattle.usb_device_endpoint.proofs.SlotLemmas.{owner-within, slot_at, holds_of-ended, Agree-end, held-value}
use Rattle.usb_device_endpoint.proofs.kernel_slots.take_slot.Goals as goal

pub returns-clause-holds : goal.returns-clause-holds
returns-clause-holds c = holds_of-ended c.args.slots.now.items c.args.ticket c.index_mut-slot.result.now c.end.new.self c.end.ensures.slot

pub returns-clause-agree : goal.returns-clause-agree
returns-clause-agree c = λ past agree. Agree-end past c.args.slots.now.items c.args.ticket c.index_mut-slot.result.now c.end.new.self agree c.end.ensures.slot

pub returns-clause-value : goal.returns-clause-value
returns-clause-value c =
    λ past agree come.
    let within = owner-within c.args.slots.now.items c.args.ticket c.requires.held in
    let at = slot_at c.args.slots.now.items c.args.ticket c.index_mut-slot.result.now within c.index_mut-slot.ensures.value in
    held-value past c.args.slots.now.items c.args.ticket c.index_mut-slot.result.now agree at c.requires.held come ∙ ap (λ (t : TransferData). Some t) (sym c.end.ensures.value)
