use Rattle.std.proofs.Common.{◌≡◌, ◌+◌, ◌-◌, ◌++◌, ◌∷◌, [], vec_len, vec_capacity, length, map, subst, sym, ap, ◌∙◌, arith}
use Rattle.std.specs.List.{count_by}
use Rattle.usb_device_ledger.specs.declared.pool.SlotKey.{SlotKey}
use Rattle.usb_device_ledger.specs.LedgerState.{host_ticket}
use Rattle.usb_device_ledger.specs.Pools.{PoolState}
use Rattle.usb_device_ledger.specs.Places.{TicketsState, is_at}
use Rattle.usb_device_ledger.specs.Slots.{slots_with}
use Rattle.usb_device_ledger.specs.TicketStates.{state_of}
use Rattle.usb_device_ledger.proofs.PoolLemmas.{inserted-count}
use Rattle.usb_device_ledger.proofs.PlaceLemmas.{Stand, both-below, stand-added, slots-added, count-added, kept-added, raised-slots}
use Rattle.usb_device_ledger.proofs.ticket_slots.TicketSlots.add.Goals as goal

pub insert-key-requires-clause-room : goal.insert-key-requires-clause-room
insert-key-requires-clause-room c = λ none. (both-below 1 (vec_capacity c.self.inside.places - vec_len c.self.inside.places) c.self.inside.pool.room (rw (← c.self.view_is) at c.requires.room)).1

pub insert-key-requires-clause-number : goal.insert-key-requires-clause-number
insert-key-requires-clause-number c =
    let room = (both-below 1 (vec_capacity c.self.inside.places - vec_len c.self.inside.places) c.self.inside.pool.room (rw (← c.self.view_is) at c.requires.room)).0 in
    omega (arith, room, c.self.invariant.count, c.self.inside.places.ok.0, c.self.ranges)

pub push_reserved-requires : goal.push_reserved-requires
push_reserved-requires c =
    let room = (both-below 1 (vec_capacity c.self.inside.places - vec_len c.self.inside.places) c.self.inside.pool.room (rw (← c.self.view_is) at c.requires.room)).0 in
    omega (arith, room)

pub invariant_of-self : goal.invariant_of-self
invariant_of-self c =
    let old = c.self.inside.pool in
    let new = c.insert-key.new.self in
    let places = c.self.inside.places.items in
    let key = c.insert-key.result in
    let generation : key.generation ≡ old.count = ap (λ (k : SlotKey). k.generation) c.insert-key.ensures.key in
    let count : new.count ≡ old.count + 1 = ap (λ (p : PoolState _). p.count) c.insert-key.ensures.inserted ∙ inserted-count old c.args.standing in
    let items = sym c.push_reserved.ensures.items in
    record {
      standing = subst (Stand new) items (stand-added old new places c.self.invariant.standing c.self.invariant.count c.insert-key.ensures.others key generation c.args.standing c.insert-key.ensures.value);
      count = count-added old new places c.self.invariant.count count key ∙ ap length items;
      kept = kept-added old new places c.self.invariant.kept c.insert-key.ensures.kept key ∙ ap (count_by is_at) items;
    }

pub returns-clause-slots : goal.returns-clause-slots
returns-clause-slots c =
    let old = c.self.inside.pool in
    let new = c.insert-key.new.self in
    let places = c.self.inside.places.items in
    let key = c.insert-key.result in
    let generation : key.generation ≡ old.count = ap (λ (k : SlotKey). k.generation) c.insert-key.ensures.key in
    rw c.push_reserved.ensures.items
    (slots-added old new places c.self.invariant.standing c.self.invariant.count c.insert-key.ensures.others key generation c.args.standing c.insert-key.ensures.value ∙ ap (λ (x : TicketsState). x.slots ++ state_of c.args.standing ∷ []) c.self.view_is)

pub returns-clause-slot_count : goal.returns-clause-slot_count
returns-clause-slot_count c =
    c.insert-key.ensures.raised ∙ raised-slots c.self.inside.pool c.self.inside.places.items c.self.invariant.standing c.self.invariant.kept ∙ ap (λ (x : TicketsState). slots_with (map host_ticket x.slots) x.slot_count) c.self.view_is
