use Rattle.std.proofs.Common.{◌≡◌, ◌-◌, Some, map, sym, refl, ap, ◌∙◌}
use Rattle.usb_device_tables.specs.History.{value_at}
use Rattle.usb_device_ledger.specs.LedgerState.{LedgerState, host_ticket}
use Rattle.usb_device_ledger.specs.Entries.{ClaimedInterface}
use Rattle.usb_device_ledger.proofs.LedgerLemmas.{is_owned-rows}
use Rattle.usb_device_ledger.proofs.ledger.Ledger.is_shared.Goals as goal

pub returns : goal.returns
returns c =
    let rows = c.self.inside.owners.rows in
    let tickets = map host_ticket c.self.inside.tickets.slots in
    record {
      shared = λ x there.
          let here : value_at c.self.inside.owners.interfaces c.args.interface.serial ≡ Some x = ap (λ (l : LedgerState). value_at l.interfaces c.args.interface.serial) c.self.view_is ∙ there in
          let fewer : ClaimedInterface = record x { handles = x.handles - 1 } in
          c.is_shared.ensures.shared x here ∙ sym (is_owned-rows rows tickets c.self.invariant c.args.interface.serial fewer) ∙ rw (← c.self.view_is) refl;
    }
