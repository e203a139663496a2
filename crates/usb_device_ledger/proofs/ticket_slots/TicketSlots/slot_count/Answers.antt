use Rattle.usb_device_ledger.proofs.PlaceLemmas.{have-slots}
use Rattle.usb_device_ledger.proofs.ticket_slots.TicketSlots.slot_count.Goals as goal

pub returns-clause-places : goal.returns-clause-places
returns-clause-places c = rw (c.slot_count.ensures.slots, ← c.self.view_is) (have-slots c.self.inside.pool c.self.inside.places.items c.self.invariant.standing)
