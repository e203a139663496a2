use Rattle.std.proofs.Common.{None, set, refl, sym, ap, ◌∙◌}
use Rattle.usb_device_tables.specs.History.{RegistryState, value_at}
use Rattle.usb_device_tables.proofs.EntryLemmas.{state, value-found, value-absent, absent-set, sound-removed, history-removed}
use Rattle.usb_device_tables.proofs.registry.Registry.remove.Goals as goal

pub invariant_of-self : goal.invariant_of-self
invariant_of-self g c =
    sound-removed c.self.inside.entries c.take_at_place.new.entries c.in-Some.place c.self.inside.next c.args.key.serial c.self.invariant c.take_at_place.ensures.updates c.in-Some.ensures.found

pub returns-in-Some-clause-value : goal.returns-in-Some-clause-value
returns-in-Some-clause-value g c =
    c.take_at_place.ensures.value ∙ value-found c.self.inside.entries.slots c.self.inside.next c.args.key.serial c.in-Some.place c.self.invariant c.in-Some.ensures.found ∙ ap (λ (r : RegistryState _). value_at r.values c.args.key.serial) c.self.view_is

pub returns-in-Some-clause-rest : goal.returns-in-Some-clause-rest
returns-in-Some-clause-rest g c =
    let values = history-removed c.self.inside.entries c.take_at_place.new.entries c.in-Some.place c.self.inside.next c.args.key.serial c.self.invariant c.take_at_place.ensures.updates c.in-Some.ensures.found in
    state values c.take_at_place.ensures.capacity ∙ ap (λ (r : RegistryState _). record r { values = set r.values c.args.key.serial None }) c.self.view_is

pub returns-in-None-clause-value : goal.returns-in-None-clause-value
returns-in-None-clause-value g c =
    sym (value-absent c.self.inside.entries.slots c.self.inside.next c.args.key.serial c.self.invariant c.in-None.ensures.absent) ∙ ap (λ (r : RegistryState _). value_at r.values c.args.key.serial) c.self.view_is

pub returns-in-None-clause-rest : goal.returns-in-None-clause-rest
returns-in-None-clause-rest g c =
    let values = absent-set c.self.inside.entries.slots c.self.inside.next c.args.key.serial c.in-None.ensures.absent in
    sym c.self.view_is ∙ state values refl ∙ ap (λ (r : RegistryState _). record r { values = set r.values c.args.key.serial None }) c.self.view_is
