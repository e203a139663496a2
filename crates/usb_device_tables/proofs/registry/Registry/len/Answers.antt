use Rattle.std.proofs.Common.{sym, ap, ◌∙◌}
use Rattle.usb_device_tables.specs.History.{RegistryState, live_count}
use Rattle.usb_device_tables.proofs.EntryLemmas.{count-history}
use Rattle.usb_device_tables.proofs.registry.Registry.len.Goals as goal

pub returns : goal.returns
returns g c =
    record { live = c.len.ensures ∙ sym (count-history c.self.inside.entries.slots c.self.inside.next c.self.invariant.apart c.self.invariant.below) ∙ ap (λ (r : RegistryState _). live_count r.values) c.self.view_is }
