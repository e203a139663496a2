use Rattle.std.proofs.Common.{None, set, length, sym, ap, ◌∙◌}
use Rattle.usb_device_tables.specs.History.{value_at}
use Rattle.usb_device_tables.proofs.EntryLemmas.{value-found, value-absent, absent-set, history-removed}
use Rattle.usb_device_tables.proofs.PlaceLemmas.{sound-placed}
use Rattle.usb_device_tables.proofs.serial_map.SerialMap.remove.Goals as goal

pub returns-in-Some-clause-value : goal.returns-in-Some-clause-value
returns-in-Some-clause-value g c =
    let places = c.self.inside.places.items in
    let sound = sound-placed c.self.inside.entries.slots places c.self.invariant in
    c.take_at_place.ensures.value ∙ value-found c.self.inside.entries.slots (length places) c.args.serial c.in-Some.place sound c.in-Some.ensures.found ∙ ap (λ values. value_at values c.args.serial) c.self.view_is

pub returns-in-Some-clause-rest : goal.returns-in-Some-clause-rest
returns-in-Some-clause-rest g c =
    let places = c.self.inside.places.items in
    let sound = sound-placed c.self.inside.entries.slots places c.self.invariant in
    history-removed c.self.inside.entries c.take_at_place.new.entries c.in-Some.place (length places) c.args.serial sound c.take_at_place.ensures.updates c.in-Some.ensures.found ∙ ap (λ values. set values c.args.serial None) c.self.view_is

pub returns-in-None-clause-value : goal.returns-in-None-clause-value
returns-in-None-clause-value g c =
    let places = c.self.inside.places.items in
    let sound = sound-placed c.self.inside.entries.slots places c.self.invariant in
    sym (value-absent c.self.inside.entries.slots (length places) c.args.serial sound c.in-None.ensures.absent) ∙ ap (λ values. value_at values c.args.serial) c.self.view_is

pub returns-in-None-clause-rest : goal.returns-in-None-clause-rest
returns-in-None-clause-rest g c =
    sym c.self.view_is ∙ absent-set c.self.inside.entries.slots (length c.self.inside.places.items) c.args.serial c.in-None.ensures.absent ∙ ap (λ values. set values c.args.serial None) c.self.view_is
