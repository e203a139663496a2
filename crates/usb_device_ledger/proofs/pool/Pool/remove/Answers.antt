use Rattle.std.proofs.Common.{◌≡◌, ◌<◌, Some, None, map, length, sym, ap, ◌∙◌, arith, refl}
use Rattle.std.proofs.lemmas.List.{map-set, length-map}
use Rattle.usb_device_ledger.specs.declared.pool.Slot.{Slot}
use Rattle.usb_device_ledger.specs.Pools.{value_of}
use Rattle.usb_device_ledger.specs.PoolFacts.{slot_pair, pool_state}
use Rattle.usb_device_ledger.proofs.FreeLemmas.{freed, free-place, reverse-last, slot_at, set_back, value-there, value-other, removed-none, removed-some}
use Rattle.usb_device_ledger.proofs.pool.Pool.remove.Goals as goal

pub returns-then-slot-key-clause-removed : goal.returns-then-slot-key-clause-removed
returns-then-slot-key-clause-removed g c =
    let items = c.self.inside.slots.items in
    let s = c.index_mut-slot.result.now in
    let inside : c.args.key.slot < length items = omega (arith, c.self.inside.slots.ok.0, c.len.ensures, c.if-key-len.false) in
    let none = value-other items c.args.key.slot s c.index_mut-slot.ensures.value inside c.args.key refl c.if-slot-key.true in
    rw (set_back items c.args.key.slot s c.index_mut-slot.ensures.value inside) (removed-none (pool_state c.self.inside) c.args.self.now c.self.view_is c.args.key none)

pub push_reserved-requires : goal.push_reserved-requires
push_reserved-requires g c =
    let items = c.self.inside.slots.items in
    let s = c.index_mut-slot.result.now in
    let inside : c.args.key.slot < length items = omega (arith, c.self.inside.slots.ok.0, c.len.ensures, c.if-key-len.false) in
    let here = slot_at items c.args.key.slot s c.index_mut-slot.ensures.value inside in
    let some : s.value ≡ Some c.in_ok-value.value = sym c.take.ensures.value ∙ c.in_ok-value.was in
    let place = free-place (map slot_pair items) c.self.inside.free.items c.args.key.slot s.generation c.in_ok-value.value c.self.invariant.free (rw some at here) in
    omega (arith, place, length-map items slot_pair, c.self.inside.slots.ok.0, c.self.inside.free.ok.0, c.self.invariant.places)

pub returns-clause-value : goal.returns-clause-value
returns-clause-value g c =
    let items = c.self.inside.slots.items in
    let s = c.index_mut-slot.result.now in
    let inside : c.args.key.slot < length items = omega (arith, c.self.inside.slots.ok.0, c.len.ensures, c.if-key-len.false) in
    let there = value-there items c.args.key.slot s c.index_mut-slot.ensures.value inside c.args.key refl c.if-slot-key.false in
    sym c.in_ok-value.was ∙ (c.take.ensures.value ∙ (sym there ∙ ap (λ p. value_of p c.args.key) c.self.view_is))

pub returns-in_err-value-clause-removed : goal.returns-in_err-value-clause-removed
returns-in_err-value-clause-removed g c =
    let items = c.self.inside.slots.items in
    let s = c.index_mut-slot.result.now in
    let inside : c.args.key.slot < length items = omega (arith, c.self.inside.slots.ok.0, c.len.ensures, c.if-key-len.false) in
    let none : s.value ≡ None = sym c.take.ensures.value ∙ c.in_err-value.was in
    let there = value-there items c.args.key.slot s c.index_mut-slot.ensures.value inside c.args.key refl c.if-slot-key.false in
    let written : ◌≡◌ {A = Slot g.row.T.Denot} (record { generation = s.generation; value = c.take.new.self }) s = ap (λ o. record { generation = s.generation; value = o }) (c.take.ensures.after ∙ sym none) in
    rw (written, set_back items c.args.key.slot s c.index_mut-slot.ensures.value inside) (removed-none (pool_state c.self.inside) c.args.self.now c.self.view_is c.args.key (there ∙ none))

pub invariant_of-self-2 : goal.invariant_of-self-2
invariant_of-self-2 g c =
    let items = c.self.inside.slots.items in
    let s = c.index_mut-slot.result.now in
    let inside : c.args.key.slot < length items = omega (arith, c.self.inside.slots.ok.0, c.len.ensures, c.if-key-len.false) in
    let here = slot_at items c.args.key.slot s c.index_mut-slot.ensures.value inside in
    let some : s.value ≡ Some c.in_ok-value.value = sym c.take.ensures.value ∙ c.in_ok-value.was in
    record {
      free = rw (map-set slot_pair items c.args.key.slot _, c.push_reserved.ensures.items, c.take.ensures.after) (freed (map slot_pair items) c.self.inside.free.items c.args.key.slot s.generation c.in_ok-value.value c.self.invariant.free (rw some at here));
      places = omega (arith, c.self.invariant.places, c.push_reserved.ensures.capacity);
    }

pub returns-clause-removed : goal.returns-clause-removed
returns-clause-removed g c =
    let items = c.self.inside.slots.items in
    let s = c.index_mut-slot.result.now in
    let inside : c.args.key.slot < length items = omega (arith, c.self.inside.slots.ok.0, c.len.ensures, c.if-key-len.false) in
    let some : s.value ≡ Some c.in_ok-value.value = sym c.take.ensures.value ∙ c.in_ok-value.was in
    let there = value-there items c.args.key.slot s c.index_mut-slot.ensures.value inside c.args.key refl c.if-slot-key.false in
    rw (map-set slot_pair items c.args.key.slot _, c.push_reserved.ensures.items, reverse-last c.self.inside.free.items c.args.key.slot, c.push_reserved.ensures.capacity, c.take.ensures.after, c.if-slot-key.false)
    (removed-some (pool_state c.self.inside) c.args.self.now c.self.view_is c.args.key c.in_ok-value.value (there ∙ some))
