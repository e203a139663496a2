use Rattle.std.proofs.Common.{◌≡◌, Some, ap, refl, ◌∙◌}
use Rattle.usb_device_tables.specs.History.{value_at}
use Rattle.usb_device_tables.proofs.ValueLemmas.{some-of}
use Rattle.usb_device_ledger.specs.OwnerRows.{OwnersState}
use Rattle.usb_device_tables.proofs.EntryLemmas.{on-ok}
use Rattle.usb_device_ledger.specs.LedgerState.{LedgerState}
use Rattle.usb_device_ledger.proofs.LedgerLemmas.{either}
use Rattle.usb_device_ledger.proofs.ledger.Ledger.add_handle.Goals as goal

pub invariant_of-self : goal.invariant_of-self
invariant_of-self c =
    let o = c.self.inside.owners in
    let there = some-of (value_at o.interfaces c.args.interface.serial) (rw (← c.self.view_is) at c.requires.there) in
    let rows : c.add_handle.new.self.rows ≡ o.rows =
    either c.add_handle.result _ _ c.add_handle.ensures.interfaces c.add_handle.ensures.err (λ ok. ap (λ (s : OwnersState). s.rows) (ok there.0 there.1)) (λ err. ap (λ (s : OwnersState). s.rows) err) in
    rw rows c.self.invariant

pub returns-clause-interfaces : goal.returns-clause-interfaces
returns-clause-interfaces c =
    on-ok c.add_handle.result _ _ c.add_handle.ensures.interfaces (λ all x there.
    let here : value_at c.self.inside.owners.interfaces c.args.interface.serial ≡ Some x = ap (λ (l : LedgerState). value_at l.interfaces c.args.interface.serial) c.self.view_is ∙ there in
    rw (← c.self.view_is, all x here) refl)
