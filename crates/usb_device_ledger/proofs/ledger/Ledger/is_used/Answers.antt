use Rattle.std.proofs.Common.{map, sym, refl, ◌∙◌}
use Rattle.usb_device_ledger.specs.LedgerState.{host_ticket}
use Rattle.usb_device_ledger.proofs.LedgerLemmas.{is_used-rows}
use Rattle.usb_device_ledger.proofs.ledger.Ledger.is_used.Goals as goal

pub returns : goal.returns
returns c =
    let rows = c.self.inside.owners.rows in
    let tickets = map host_ticket c.self.inside.tickets.slots in
    record { used = c.is_used.ensures.used ∙ sym (is_used-rows rows tickets c.self.invariant c.args.interface.serial c.args.address) ∙ rw (← c.self.view_is) refl }
