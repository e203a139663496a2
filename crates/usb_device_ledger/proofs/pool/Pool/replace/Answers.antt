use Rattle.std.proofs.Common.{◌≡◌, ◌<◌, Some, None, map, length, sym, ap, ◌∙◌, arith, refl}
use Rattle.std.proofs.lemmas.List.{map-set}
use Rattle.usb_device_ledger.specs.declared.pool.Slot.{Slot}
use Rattle.usb_device_ledger.specs.Pools.{value_of}
use Rattle.usb_device_ledger.specs.PoolFacts.{slot_pair, pool_state}
use Rattle.usb_device_ledger.proofs.FreeLemmas.{free-written, slot_at, set_back, value-there, value-other, replaced-none, replaced-some}
use Rattle.usb_device_ledger.proofs.pool.Pool.replace.Goals as goal

pub returns-then-slot-key-clause-replaced : goal.returns-then-slot-key-clause-replaced
returns-then-slot-key-clause-replaced g c =
    let items = c.self.inside.slots.items in
    let s = c.index_mut-slot.result.now in
    let inside : c.args.key.slot < length items = omega (arith, c.self.inside.slots.ok.0, c.len.ensures, c.if-key-len.false) in
    let none = value-other items c.args.key.slot s c.index_mut-slot.ensures.value inside c.args.key refl c.if-slot-key.true in
    rw (set_back items c.args.key.slot s c.index_mut-slot.ensures.value inside) (replaced-none (pool_state c.self.inside) c.args.self.now c.self.view_is c.args.key c.args.value none)

pub returns-clause-value : goal.returns-clause-value
returns-clause-value g c =
    let items = c.self.inside.slots.items in
    let s = c.index_mut-slot.result.now in
    let inside : c.args.key.slot < length items = omega (arith, c.self.inside.slots.ok.0, c.len.ensures, c.if-key-len.false) in
    let there = value-there items c.args.key.slot s c.index_mut-slot.ensures.value inside c.args.key refl c.if-slot-key.false in
    sym c.in_ok-old.was ∙ (c.take.ensures.value ∙ (sym there ∙ ap (λ p. value_of p c.args.key) c.self.view_is))

pub returns-in_err-old-clause-replaced : goal.returns-in_err-old-clause-replaced
returns-in_err-old-clause-replaced g c =
    let items = c.self.inside.slots.items in
    let s = c.index_mut-slot.result.now in
    let inside : c.args.key.slot < length items = omega (arith, c.self.inside.slots.ok.0, c.len.ensures, c.if-key-len.false) in
    let none : s.value ≡ None = sym c.take.ensures.value ∙ c.in_err-old.was in
    let there = value-there items c.args.key.slot s c.index_mut-slot.ensures.value inside c.args.key refl c.if-slot-key.false in
    let same : ◌≡◌ {A = Slot g.row.T.Denot} (record { generation = s.generation; value = c.take.new.self }) s = ap (λ o. record { generation = s.generation; value = o }) (c.take.ensures.after ∙ sym none) in
    rw (same, set_back items c.args.key.slot s c.index_mut-slot.ensures.value inside) (replaced-none (pool_state c.self.inside) c.args.self.now c.self.view_is c.args.key c.args.value (there ∙ none))

pub invariant_of-self-2 : goal.invariant_of-self-2
invariant_of-self-2 g c =
    let items = c.self.inside.slots.items in
    let s = c.index_mut-slot.result.now in
    let inside : c.args.key.slot < length items = omega (arith, c.self.inside.slots.ok.0, c.len.ensures, c.if-key-len.false) in
    let here = slot_at items c.args.key.slot s c.index_mut-slot.ensures.value inside in
    let some : s.value ≡ Some c.in_ok-old.old = sym c.take.ensures.value ∙ c.in_ok-old.was in
    record {
      free = rw (map-set slot_pair items c.args.key.slot _) (free-written (map slot_pair items) c.self.inside.free.items c.args.key.slot s.generation c.in_ok-old.old c.args.value c.self.invariant.free (rw some at here));
      places = omega (arith, c.self.invariant.places);
    }

pub returns-clause-replaced : goal.returns-clause-replaced
returns-clause-replaced g c =
    let items = c.self.inside.slots.items in
    let s = c.index_mut-slot.result.now in
    let inside : c.args.key.slot < length items = omega (arith, c.self.inside.slots.ok.0, c.len.ensures, c.if-key-len.false) in
    let some : s.value ≡ Some c.in_ok-old.old = sym c.take.ensures.value ∙ c.in_ok-old.was in
    let there = value-there items c.args.key.slot s c.index_mut-slot.ensures.value inside c.args.key refl c.if-slot-key.false in
    rw (map-set slot_pair items c.args.key.slot _, c.if-slot-key.false)
    (replaced-some (pool_state c.self.inside) c.args.self.now c.self.view_is c.args.key c.args.value c.in_ok-old.old (there ∙ some))
