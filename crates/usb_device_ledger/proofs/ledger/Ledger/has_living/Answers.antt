use Rattle.std.proofs.Common.{map, sym, refl, ◌∙◌}
use Rattle.usb_device_ledger.specs.LedgerState.{host_ticket}
use Rattle.usb_device_ledger.proofs.OwnedRows.{has_living-rows}
use Rattle.usb_device_ledger.proofs.ledger.Ledger.has_living.Goals as goal

pub returns : goal.returns
returns c =
    let rows = c.self.inside.owners.rows in
    let tickets = map host_ticket c.self.inside.tickets.slots in
    record { living = c.has_living.ensures.living ∙ sym (has_living-rows rows tickets c.self.invariant c.args.interface.serial) ∙ rw (← c.self.view_is) refl }
