use Rattle.std.proofs.Common.{arith, ap}
use Rattle.usb_device_tables.specs.History.{RegistryState, live_count}
use Rattle.usb_device_tables.proofs.EntryLemmas.{count-history}
use Rattle.usb_device_tables.proofs.registry.Registry.capacity.Goals as goal

pub returns-clause-holds_all : goal.returns-clause-holds_all
returns-clause-holds_all g c =
    omega (arith, c.capacity.ensures.holds_all, count-history c.self.inside.entries.slots c.self.inside.next c.self.invariant.apart c.self.invariant.below, ap (λ (r : RegistryState _). live_count r.values) c.self.view_is)
