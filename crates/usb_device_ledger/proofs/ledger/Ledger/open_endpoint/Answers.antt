use Rattle.std.proofs.Common.{Some, map, true, sym, refl, ◌∙◌}
use Rattle.usb_device_ledger.specs.declared.owners.EndpointRow.{EndpointRow}
use Rattle.usb_device_ledger.specs.LedgerState.{host_ticket}
use Rattle.usb_device_ledger.proofs.LedgerLemmas.{Tied-open, is_used-rows, either}
use Rattle.usb_device_ledger.proofs.ledger.Ledger.open_endpoint.Goals as goal

pub open_endpoint-requires-clause-unused : goal.open_endpoint-requires-clause-unused
open_endpoint-requires-clause-unused c =
    let rows = c.self.inside.owners.rows in
    sym (is_used-rows rows (map host_ticket c.self.inside.tickets.slots) c.self.invariant c.args.interface.serial c.args.address) ∙ rw (← c.self.view_is) at c.requires.unused

pub invariant_of-self : goal.invariant_of-self
invariant_of-self c =
    let rows = c.self.inside.owners.rows in
    let e : EndpointRow = record { interface = Some c.args.interface; address = c.args.address; is_open = true; tickets = 0 } in
    either c.open_endpoint.result _ _ c.open_endpoint.ensures.rows c.open_endpoint.ensures.err
    (λ ok. rw ok (Tied-open rows (map host_ticket c.self.inside.tickets.slots) e c.self.invariant refl))
    (λ err. rw err c.self.invariant)
