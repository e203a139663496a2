use Rattle.std.proofs.Common.{map, slice_get, sym, ap, ◌∙◌}
use Rattle.std.specs.Prelude.{option_and_then}
use Rattle.usb_device_ledger.specs.EndedTickets.{end_at}
use Rattle.usb_device_ledger.specs.LedgerState.{host_ticket}
use Rattle.usb_device_ledger.specs.Places.{TicketsState, place_end}
use Rattle.usb_device_ledger.proofs.PlaceLemmas.{end-places}
use Rattle.usb_device_ledger.proofs.ticket_slots.TicketSlots.end_of.Goals as goal

pub returns : goal.returns
returns c =
    record {
      end = c.end_at.ensures.end ∙ ap (λ xs. option_and_then place_end (slice_get xs c.args.ticket)) c.deref.ensures.value ∙ sym (end-places c.self.inside.pool c.self.inside.places.items c.self.invariant.standing c.args.ticket) ∙ ap (λ (x : TicketsState). end_at (map host_ticket x.slots) c.args.ticket) c.self.view_is;
    }
