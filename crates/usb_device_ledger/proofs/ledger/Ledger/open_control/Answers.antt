use Rattle.std.proofs.Common.{None, length, map, true, refl, sym, ap, ◌∙◌}
use Rattle.std.specs.List.{count_by}
use Rattle.usb_device_ledger.specs.declared.owners.EndpointRow.{EndpointRow}
use Rattle.usb_device_ledger.specs.LedgerState.{LedgerState, host_ticket, tickets_in}
use Rattle.usb_device_ledger.specs.Owners.{is_ticket_of}
use Rattle.usb_device_ledger.proofs.LedgerLemmas.{Tied-open, none-next, either}
use Rattle.usb_device_ledger.proofs.ledger.Ledger.open_control.Goals as goal

pub invariant_of-self : goal.invariant_of-self
invariant_of-self c =
    let rows = c.self.inside.owners.rows in
    let e : EndpointRow = record { interface = None; address = c.args.address; is_open = true; tickets = 0 } in
    either c.open_control.result _ _ c.open_control.ensures.rows c.open_control.ensures.err
    (λ ok. rw ok (Tied-open rows (map host_ticket c.self.inside.tickets.slots) e c.self.invariant refl))
    (λ err. rw err c.self.invariant)

pub returns-clause-unheld : goal.returns-clause-unheld
returns-clause-unheld c =
    ap (λ (l : LedgerState). count_by (is_ticket_of (length l.endpoints)) (tickets_in l)) (sym c.self.view_is)
    ∙ none-next c.self.inside.owners.rows (map host_ticket c.self.inside.tickets.slots) c.self.invariant
