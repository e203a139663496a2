use Rattle.std.proofs.Common.{◌≡◌, ◌-◌, Some, set, map, ap, sym, refl, ◌∙◌}
use Rattle.usb_device_tables.specs.History.{value_at}
use Rattle.usb_device_tables.proofs.ValueLemmas.{some-of}
use Rattle.usb_device_ledger.specs.LedgerState.{LedgerState, host_ticket}
use Rattle.usb_device_ledger.proofs.LedgerLemmas.{claim_ended-rows}
use Rattle.usb_device_ledger.proofs.ledger.Ledger.close_handle.Goals as goal

pub invariant_of-self : goal.invariant_of-self
invariant_of-self c =
    let there = some-of (value_at c.self.inside.owners.interfaces c.args.interface.serial) (rw (← c.self.view_is) at c.requires.there) in
    rw (c.close_handle.ensures.interfaces there.0 there.1) c.self.invariant

pub returns-clause-interfaces : goal.returns-clause-interfaces
returns-clause-interfaces c = λ x there.
    let here : value_at c.self.inside.owners.interfaces c.args.interface.serial ≡ Some x = ap (λ (l : LedgerState). value_at l.interfaces c.args.interface.serial) c.self.view_is ∙ there in
    let left = set c.self.inside.owners.interfaces c.args.interface.serial (Some (record x { handles = x.handles - 1 })) in
    let ended = c.close_handle.ensures.gone x here ∙ sym (claim_ended-rows c.self.inside.owners.rows (map host_ticket c.self.inside.tickets.slots) c.self.invariant left c.args.interface.serial) in
    rw (← c.self.view_is, c.close_handle.ensures.interfaces x here, ended) refl

pub returns-clause-claim : goal.returns-clause-claim
returns-clause-claim c = λ x there.
    let here : value_at c.self.inside.owners.interfaces c.args.interface.serial ≡ Some x = ap (λ (l : LedgerState). value_at l.interfaces c.args.interface.serial) c.self.view_is ∙ there in
    let left = set c.self.inside.owners.interfaces c.args.interface.serial (Some (record x { handles = x.handles - 1 })) in
    rw (← c.self.view_is) (c.close_handle.ensures.gone x here ∙ sym (claim_ended-rows c.self.inside.owners.rows (map host_ticket c.self.inside.tickets.slots) c.self.invariant left c.args.interface.serial))
