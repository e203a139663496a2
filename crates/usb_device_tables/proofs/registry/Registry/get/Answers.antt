use Rattle.std.proofs.Common.{sym, ap, ◌∙◌}
use Rattle.usb_device_tables.specs.History.{RegistryState, value_at}
use Rattle.usb_device_tables.proofs.EntryLemmas.{value-found, value-absent}
use Rattle.usb_device_tables.proofs.registry.Registry.get.Goals as goal

pub returns-in-Some : goal.returns-in-Some
returns-in-Some g c =
    let at = value-found c.self.inside.entries.slots c.self.inside.next c.args.key.serial c.in-Some.place c.self.invariant c.in-Some.ensures.found in
    record { value = c.value_at_place.ensures.value ∙ at ∙ ap (λ (r : RegistryState _). value_at r.values c.args.key.serial) c.self.view_is }

pub returns-in-None : goal.returns-in-None
returns-in-None g c =
    let none = value-absent c.self.inside.entries.slots c.self.inside.next c.args.key.serial c.self.invariant c.in-None.ensures.absent in
    record { value = sym none ∙ ap (λ (r : RegistryState _). value_at r.values c.args.key.serial) c.self.view_is }
