use Rattle.std.proofs.Common.{◌≡◌, Some, set, slice_get, sym, ap, ◌∙◌}
use Rattle.std.specs.Prelude.{option_and_then}
use Rattle.usb_device_ledger.specs.declared.place.TicketPlace.TheVariants.{At}
use Rattle.usb_device_ledger.specs.Pools.{value_of}
use Rattle.usb_device_ledger.specs.Places.{TicketsState, place_key}
use Rattle.usb_device_ledger.specs.TicketStates.{state_of}
use Rattle.usb_device_ledger.proofs.PoolLemmas.{replaced-kept}
use Rattle.usb_device_ledger.proofs.PlaceLemmas.{place-of, some-standing, value-there, stand-replaced, count-replaced, state-replaced}
use Rattle.usb_device_ledger.proofs.ticket_slots.TicketSlots.replace.Goals as goal

pub unwrap-key-requires : goal.unwrap-key-requires
unwrap-key-requires c =
    let found : c.key_at.result ≡ option_and_then place_key (slice_get c.self.inside.places.items c.args.ticket) = c.key_at.ensures.key ∙ ap (λ xs. option_and_then place_key (slice_get xs c.args.ticket)) c.deref.ensures.value in
    rw found (some-standing c.self.inside.pool c.self.inside.places.items c.args.ticket (rw (← c.self.view_is) at c.requires.there))

pub invariant_of-self : goal.invariant_of-self
invariant_of-self c =
    let pool = c.self.inside.pool in
    let places = c.self.inside.places.items in
    let key = c.unwrap-key.result in
    let found : c.key_at.result ≡ option_and_then place_key (slice_get c.self.inside.places.items c.args.ticket) = c.key_at.ensures.key ∙ ap (λ xs. option_and_then place_key (slice_get xs c.args.ticket)) c.deref.ensures.value in
    let at : slice_get places c.args.ticket ≡ Some (At key) = place-of (slice_get places c.args.ticket) key (sym found ∙ c.unwrap-key.ensures) in
    let was = value-there (value_of pool key) (c.self.invariant.standing c.args.ticket key at).0 in
    rw c.replace.ensures.replaced
    (record {
      standing = stand-replaced pool places c.self.invariant.standing c.args.ticket key at was.0 was.1 c.args.standing;
      count = count-replaced pool places c.self.invariant.standing c.args.ticket key at was.0 was.1 c.args.standing ∙ c.self.invariant.count;
      kept = replaced-kept pool key c.args.standing was.0 was.1 ∙ c.self.invariant.kept;
    })

pub returns : goal.returns
returns c =
    let pool = c.self.inside.pool in
    let places = c.self.inside.places.items in
    let key = c.unwrap-key.result in
    let found : c.key_at.result ≡ option_and_then place_key (slice_get c.self.inside.places.items c.args.ticket) = c.key_at.ensures.key ∙ ap (λ xs. option_and_then place_key (slice_get xs c.args.ticket)) c.deref.ensures.value in
    let at : slice_get places c.args.ticket ≡ Some (At key) = place-of (slice_get places c.args.ticket) key (sym found ∙ c.unwrap-key.ensures) in
    let was = value-there (value_of pool key) (c.self.invariant.standing c.args.ticket key at).0 in
    record {
      slots = rw c.replace.ensures.replaced (state-replaced pool places c.self.invariant.standing c.args.ticket key at was.0 was.1 c.args.standing _ ∙ ap (λ (x : TicketsState). record x { slots = set x.slots c.args.ticket (state_of c.args.standing) }) c.self.view_is);
    }
