use Rattle.std.proofs.Common.{Some, set, refl, sym, ap, ◌∙◌}
use Rattle.std.specs.Option.{option_map}
use Rattle.usb_device_tables.specs.declared.entry.Entry.{Entry}
use Rattle.usb_device_tables.specs.History.{RegistryState, value_at}
use Rattle.usb_device_tables.proofs.EntryLemmas.{state, value-found, value-absent, sound-lent, history-lent, some-none}
use Rattle.usb_device_tables.proofs.registry.Registry.value_mut.Goals as goal

pub unreachable-requires : goal.unreachable-requires
unreachable-requires g c =
    let none = value-absent c.self.inside.entries.slots c.self.inside.next c.args.key.serial c.self.invariant c.in_default.ensures.absent in
    some-none _ c.requires.there (ap (λ (r : RegistryState _). value_at r.values c.args.key.serial) (sym c.self.view_is) ∙ none)

pub invariant_of-self-lent : goal.invariant_of-self-lent
invariant_of-self-lent g c w =
    sound-lent c.self.inside.entries c.in-Some.place c.self.inside.next c.args.key.serial w c.self.invariant c.in-Some.ensures.found c.index_mut-entry.result.now c.index_mut-entry.ensures.value

pub returns : goal.returns
returns g c =
    let at = value-found c.self.inside.entries.slots c.self.inside.next c.args.key.serial c.in-Some.place c.self.invariant c.in-Some.ensures.found in
    let here = sym (ap (λ (r : RegistryState _). value_at r.values c.args.key.serial) c.self.view_is) ∙ sym at ∙ ap (option_map (λ (e : Entry _). e.value)) c.index_mut-entry.ensures.value in (
      (refl, λ w. state (history-lent c.self.inside.entries c.in-Some.place c.self.inside.next c.args.key.serial w c.self.invariant c.in-Some.ensures.found c.index_mut-entry.result.now c.index_mut-entry.ensures.value) refl ∙ ap (λ (r : RegistryState _). record r { values = set r.values c.args.key.serial (Some w) }) c.self.view_is),
      record { writes_back = tt; value = here },
    )
