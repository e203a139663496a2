use Rattle.std.proofs.Common.{◌+◌, ◌++◌, ◌∷◌, [], Some, arith, sym, refl, ap, length, ◌∙◌}
use Rattle.usb_device_tables.specs.Entries.{find_serial}
use Rattle.usb_device_tables.specs.History.{RegistryState}
use Rattle.usb_device_tables.proofs.EntryLemmas.{state, has-room, sound-inserted, history-inserted}
use Rattle.usb_device_tables.proofs.SerialLemmas.{length-below}
use Rattle.usb_device_tables.proofs.registry.Registry.insert_reserved.Goals as goal

pub insert_reserved-place-requires : goal.insert_reserved-place-requires
insert_reserved-place-requires g c =
    has-room c.self.inside.entries c.self.inside.next c.args.self.now c.self.invariant c.self.view_is c.requires.room

pub overflow_add-self : goal.overflow_add-self
overflow_add-self g c =
    let number = length-below (find_serial c.self.inside.entries.slots) c.self.inside.next in
    let same = ap (λ (r : RegistryState _). length r.values) c.self.view_is in
    omega (arith, number, same, c.requires.serials)

pub invariant_of-self : goal.invariant_of-self
invariant_of-self g c =
    let new = c.insert_reserved-place.ensures in
    sound-inserted c.self.inside.entries c.insert_reserved-place.new.self c.insert_reserved-place.result c.self.inside.next (c.self.inside.next + 1) _ c.self.invariant new.updates new.was_vacant refl (omega arith)

pub returns-clause-serial : goal.returns-clause-serial
returns-clause-serial g c = sym (length-below (find_serial c.self.inside.entries.slots) c.self.inside.next) ∙ ap (λ (r : RegistryState _). length r.values) c.self.view_is

pub returns-clause-inserted : goal.returns-clause-inserted
returns-clause-inserted g c =
    let new = c.insert_reserved-place.ensures in
    state
    (history-inserted c.self.inside.entries c.insert_reserved-place.new.self c.insert_reserved-place.result c.self.inside.next (c.self.inside.next + 1) _ c.self.invariant new.updates new.was_vacant refl (omega arith) ∙ ap (λ (r : RegistryState _). r.values ++ Some c.args.value ∷ []) c.self.view_is)
    (new.capacity ∙ ap (λ (r : RegistryState _). r.capacity) c.self.view_is)
