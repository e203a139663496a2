use Rattle.std.proofs.Common.{slice_get, sym, ap, ◌∙◌}
use Rattle.std.specs.Prelude.{option_and_then}
use Rattle.usb_device_ledger.specs.Pools.{value_of}
use Rattle.usb_device_ledger.specs.Places.{TicketsState, place_key}
use Rattle.usb_device_ledger.specs.TicketStates.{standing_at}
use Rattle.usb_device_ledger.proofs.PlaceLemmas.{standing-places}
use Rattle.usb_device_ledger.proofs.ticket_slots.TicketSlots.standing.Goals as goal

pub returns : goal.returns
returns c =
    let pool = c.self.inside.pool in
    let places = c.self.inside.places.items in
    let found = c.key_at.ensures.key ∙ ap (λ xs. option_and_then place_key (slice_get xs c.args.ticket)) c.deref.ensures.value in
    record {
      standing = c.get.ensures.value ∙ ap (λ o. option_and_then (value_of pool) o) (sym c.in_ok-key.was ∙ found) ∙ sym (standing-places pool places c.args.ticket) ∙ ap (λ (x : TicketsState). standing_at x.slots c.args.ticket) c.self.view_is;
    }
