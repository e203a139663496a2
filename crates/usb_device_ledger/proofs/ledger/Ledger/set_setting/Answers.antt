use Rattle.usb_device_tables.specs.History.{value_at}
use Rattle.usb_device_tables.proofs.ValueLemmas.{some-of}
use Rattle.usb_device_ledger.proofs.ledger.Ledger.set_setting.Goals as goal

pub invariant_of-self : goal.invariant_of-self
invariant_of-self c =
    let there = some-of (value_at c.self.inside.owners.interfaces c.args.interface.serial) (rw (← c.self.view_is) at c.requires.there) in
    rw (c.set_setting.ensures.interfaces there.0 there.1) c.self.invariant
