use Rattle.std.proofs.Common.{◌≡◌, ◌+◌, length, ◌++◌, ◌∷◌, [], Some, map, ap, ◌∙◌, arith}
use Rattle.std.specs.Prelude.{reverse}
use Rattle.std.proofs.lemmas.List.{map-set, map-append, length-map}
use Rattle.usb_device_ledger.specs.Pools.{PoolState, AreFree, value_of, kept_count}
use Rattle.usb_device_ledger.specs.PoolFacts.{slot_pair, pool_state}
use Rattle.usb_device_ledger.proofs.FreeLemmas.{free-used, free-next, reverse-last, inserted-used, count-used, value-used, others-used, value-new, others-new}
use Rattle.usb_device_ledger.proofs.pool.Pool.insert.Goals as goal

pub invariant_of-self : goal.invariant_of-self
invariant_of-self g c =
    let slots = c.self.inside.slots.items in
    let popped = c.in-Some.ensures.items in
    let free : AreFree (map slot_pair slots) (c.pop.new.self.items ++ c.in-Some.slot ∷ []) = rw popped at c.self.invariant.free in
    record {
      free = rw (map-set slot_pair slots c.in-Some.slot _) (free-used (map slot_pair slots) c.pop.new.self.items c.in-Some.slot c.self.inside.count c.args.value free);
      places = omega (arith, c.self.invariant.places, c.in-Some.ensures.capacity);
    }

pub returns-in-Some-clause-inserted : goal.returns-in-Some-clause-inserted
returns-in-Some-clause-inserted g c =
    let popped = c.in-Some.ensures.items in
    let free_is = ap reverse popped ∙ reverse-last c.pop.new.self.items c.in-Some.slot in
    let written = map-set slot_pair c.self.inside.slots.items c.in-Some.slot (record { generation = c.self.inside.count; value = Some c.args.value }) in
    rw (written, c.in-Some.ensures.capacity) (inserted-used (pool_state c.self.inside) c.args.self.now c.self.view_is c.args.value c.in-Some.slot (reverse c.pop.new.self.items) free_is)

pub returns-in-Some-clause-value : goal.returns-in-Some-clause-value
returns-in-Some-clause-value g c =
    let slots = c.self.inside.slots.items in
    let free : AreFree (map slot_pair slots) (c.pop.new.self.items ++ c.in-Some.slot ∷ []) = rw c.in-Some.ensures.items at c.self.invariant.free in
    let next = free-next (map slot_pair slots) c.pop.new.self.items c.in-Some.slot free in
    rw (map-set slot_pair slots c.in-Some.slot _) (value-used (map slot_pair slots) c.in-Some.slot next.0 c.self.inside.count c.args.value next.1)

pub returns-in-Some-clause-others : goal.returns-in-Some-clause-others
returns-in-Some-clause-others g c = λ key apart.
    let slots = c.self.inside.slots.items in
    let free : AreFree (map slot_pair slots) (c.pop.new.self.items ++ c.in-Some.slot ∷ []) = rw c.in-Some.ensures.items at c.self.invariant.free in
    let next = free-next (map slot_pair slots) c.pop.new.self.items c.in-Some.slot free in
    let others = others-used (map slot_pair slots) c.in-Some.slot next.0 c.self.inside.count c.args.value next.1 key.slot key.generation (λ z. apart (z ∙ ap (λ (p : PoolState _). p.count) c.self.view_is)) in
    rw (map-set slot_pair slots c.in-Some.slot _) (others ∙ ap (λ p. value_of p key) c.self.view_is)

pub returns-in-Some-clause-kept : goal.returns-in-Some-clause-kept
returns-in-Some-clause-kept g c =
    let slots = c.self.inside.slots.items in
    let free : AreFree (map slot_pair slots) (c.pop.new.self.items ++ c.in-Some.slot ∷ []) = rw c.in-Some.ensures.items at c.self.invariant.free in
    let next = free-next (map slot_pair slots) c.pop.new.self.items c.in-Some.slot free in
    rw (map-set slot_pair slots c.in-Some.slot _) (count-used (map slot_pair slots) c.in-Some.slot next.0 c.self.inside.count c.args.value next.1 ∙ ap (λ (p : PoolState _). kept_count p + 1) c.self.view_is)

pub returns-in-None-clause-value : goal.returns-in-None-clause-value
returns-in-None-clause-value g c =
    let slots = c.self.inside.slots.items in
    let last : c.len-slot.result ≡ length (map slot_pair slots) = omega (arith, c.len-slot.ensures, c.self.inside.slots.ok.0, length-map slots slot_pair) in
    rw (c.push_reserved.ensures.items, map-append) (value-new (map slot_pair slots) c.self.inside.count c.args.value c.len-slot.result last)

pub returns-in-None-clause-others : goal.returns-in-None-clause-others
returns-in-None-clause-others g c = λ key apart.
    let others = others-new (map slot_pair c.self.inside.slots.items) c.self.inside.count c.args.value key.slot key.generation (λ z. apart (z ∙ ap (λ (p : PoolState _). p.count) c.self.view_is)) in
    rw (c.push_reserved.ensures.items, map-append) (others ∙ ap (λ p. value_of p key) c.self.view_is)
