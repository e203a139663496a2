use Rattle.std.proofs.Common.{◌∙◌}
use Rattle.usb_device_endpoint.proofs.SlotLemmas.{owner-within, slot_at, has-come}
use Rattle.usb_device_endpoint.proofs.kernel_slots.has_come.Goals as goal

pub returns : goal.returns
returns c = record {
  come = λ past agree.
      let within = owner-within c.args.slots.now c.args.ticket c.requires.held in
      let at = slot_at c.args.slots.now c.args.ticket c.index-slots-ticket.result within c.index-slots-ticket.is in
      c.is_complete.ensures.complete ∙ has-come past c.args.slots.now c.args.ticket c.index-slots-ticket.result agree at c.requires.held;
}
