use Rattle.std.proofs.Common.{◌≡◌, Some, set, length-set, slice_get, sym, ap, ◌∙◌}
use Rattle.std.specs.Prelude.{option_and_then}
use Rattle.std.proofs.lemmas.Option.{slice_get_within}
use Rattle.usb_device_ledger.specs.declared.place.TicketPlace.TheVariants.{At, Over}
use Rattle.usb_device_ledger.specs.Pools.{value_of}
use Rattle.usb_device_ledger.specs.Places.{TicketsState, place_key}
use Rattle.usb_device_ledger.specs.TicketStates.{Ended, standing_at}
use Rattle.usb_device_ledger.proofs.ListLemmas.{place_there}
use Rattle.usb_device_ledger.proofs.PlaceLemmas.{place-of, some-standing, value-there, standing-places, stand-removed, count-removed, kept-removed, state-removed}
use Rattle.usb_device_ledger.proofs.ticket_slots.TicketSlots.end.Goals as goal

pub unwrap-key-requires : goal.unwrap-key-requires
unwrap-key-requires c =
    let found : c.key_at.result ≡ option_and_then place_key (slice_get c.self.inside.places.items c.args.ticket) = c.key_at.ensures.key ∙ ap (λ xs. option_and_then place_key (slice_get xs c.args.ticket)) c.deref.ensures.value in
    rw found (some-standing c.self.inside.pool c.self.inside.places.items c.args.ticket (rw (← c.self.view_is) at c.requires.there))

pub index_mut-requires : goal.index_mut-requires
index_mut-requires c =
    let places = c.self.inside.places.items in
    let key = c.unwrap-key.result in
    let found : c.key_at.result ≡ option_and_then place_key (slice_get c.self.inside.places.items c.args.ticket) = c.key_at.ensures.key ∙ ap (λ xs. option_and_then place_key (slice_get xs c.args.ticket)) c.deref.ensures.value in
    let at : slice_get places c.args.ticket ≡ Some (At key) = place-of (slice_get places c.args.ticket) key (sym found ∙ c.unwrap-key.ensures) in
    place_there c.self.inside.places c.args.ticket (slice_get_within places c.args.ticket (At key) at)

pub unwrap-requires : goal.unwrap-requires
unwrap-requires c =
    let places = c.self.inside.places.items in
    let key = c.unwrap-key.result in
    let found : c.key_at.result ≡ option_and_then place_key (slice_get c.self.inside.places.items c.args.ticket) = c.key_at.ensures.key ∙ ap (λ xs. option_and_then place_key (slice_get xs c.args.ticket)) c.deref.ensures.value in
    let at : slice_get places c.args.ticket ≡ Some (At key) = place-of (slice_get places c.args.ticket) key (sym found ∙ c.unwrap-key.ensures) in
    rw c.remove.ensures.value (c.self.invariant.standing c.args.ticket key at).0

pub invariant_of-self : goal.invariant_of-self
invariant_of-self c =
    let pool = c.self.inside.pool in
    let places = c.self.inside.places.items in
    let key = c.unwrap-key.result in
    let found : c.key_at.result ≡ option_and_then place_key (slice_get c.self.inside.places.items c.args.ticket) = c.key_at.ensures.key ∙ ap (λ xs. option_and_then place_key (slice_get xs c.args.ticket)) c.deref.ensures.value in
    let at : slice_get places c.args.ticket ≡ Some (At key) = place-of (slice_get places c.args.ticket) key (sym found ∙ c.unwrap-key.ensures) in
    let was = value-there (value_of pool key) (c.self.invariant.standing c.args.ticket key at).0 in
    rw c.remove.ensures.removed
    (record {
      standing = stand-removed pool places c.self.invariant.standing c.args.ticket key at was.0 was.1 c.args.end;
      count = count-removed pool places c.self.invariant.standing c.args.ticket key at was.0 was.1 ∙ c.self.invariant.count ∙ sym (length-set places c.args.ticket (Over c.args.end));
      kept = kept-removed pool places c.self.invariant.standing c.args.ticket key at was.0 was.1 c.args.end c.self.invariant.kept;
    })

pub returns-clause-standing : goal.returns-clause-standing
returns-clause-standing c =
    let pool = c.self.inside.pool in
    let places = c.self.inside.places.items in
    let key = c.unwrap-key.result in
    let found : c.key_at.result ≡ option_and_then place_key (slice_get c.self.inside.places.items c.args.ticket) = c.key_at.ensures.key ∙ ap (λ xs. option_and_then place_key (slice_get xs c.args.ticket)) c.deref.ensures.value in
    let stands = ap (λ o. option_and_then (value_of pool) o) (sym found ∙ c.unwrap-key.ensures) in
    ap (λ (x : TicketsState). standing_at x.slots c.args.ticket) (sym c.self.view_is) ∙ standing-places pool places c.args.ticket ∙ stands ∙ sym c.remove.ensures.value ∙ c.unwrap.ensures

pub returns-clause-slots : goal.returns-clause-slots
returns-clause-slots c =
    let pool = c.self.inside.pool in
    let places = c.self.inside.places.items in
    let key = c.unwrap-key.result in
    let found : c.key_at.result ≡ option_and_then place_key (slice_get c.self.inside.places.items c.args.ticket) = c.key_at.ensures.key ∙ ap (λ xs. option_and_then place_key (slice_get xs c.args.ticket)) c.deref.ensures.value in
    let at : slice_get places c.args.ticket ≡ Some (At key) = place-of (slice_get places c.args.ticket) key (sym found ∙ c.unwrap-key.ensures) in
    let was = value-there (value_of pool key) (c.self.invariant.standing c.args.ticket key at).0 in
    rw c.remove.ensures.removed (state-removed pool places c.self.invariant.standing c.args.ticket key at was.0 was.1 c.args.end _ ∙ ap (λ (x : TicketsState). record x { slots = set x.slots c.args.ticket (Ended c.args.end) }) c.self.view_is)
