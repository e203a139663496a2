use Rattle.std.proofs.Common.{length, sym, ap, ◌∙◌}
use Rattle.usb_device_tables.specs.History.{value_at}
use Rattle.usb_device_tables.proofs.EntryLemmas.{value-found, value-absent}
use Rattle.usb_device_tables.proofs.PlaceLemmas.{sound-placed}
use Rattle.usb_device_tables.proofs.serial_map.SerialMap.get.Goals as goal

pub returns-in-Some : goal.returns-in-Some
returns-in-Some g c =
    let places = c.self.inside.places.items in
    let sound = sound-placed c.self.inside.entries.slots places c.self.invariant in
    let at = value-found c.self.inside.entries.slots (length places) c.args.serial c.in-Some.place sound c.in-Some.ensures.found in
    record { value = c.value_at_place.ensures.value ∙ at ∙ ap (λ values. value_at values c.args.serial) c.self.view_is }

pub returns-in-None : goal.returns-in-None
returns-in-None g c =
    let places = c.self.inside.places.items in
    let sound = sound-placed c.self.inside.entries.slots places c.self.invariant in
    let none = value-absent c.self.inside.entries.slots (length places) c.args.serial sound c.in-None.ensures.absent in
    record { value = sym none ∙ ap (λ values. value_at values c.args.serial) c.self.view_is }
