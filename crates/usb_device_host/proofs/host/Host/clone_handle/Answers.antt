use Rattle.usb_device_tables.specs.History.{value_at}
use Rattle.std.proofs.Common.{◌≡◌, ap, refl}
use Rattle.usb_device_ledger.specs.LedgerState.{LedgerState}
use Rattle.usb_device_tables.proofs.ValueLemmas.{some-of}
use Rattle.usb_device_ledger.proofs.LedgerLemmas.{either}
use Rattle.usb_device_host.proofs.CalledHosts.{matched-next, cloned-made}
use Rattle.usb_device_host.proofs.host.Host.clone_handle.Goals as goal

pub invariant_of-self : goal.invariant_of-self
invariant_of-self c =
    let l = c.self.inside.ledger in
    let there = some-of (value_at l.interfaces c.args.interface.serial) (rw (← c.self.view_is) at c.requires.interface) in
    let slots : c.add_handle.new.self.slots ≡ l.slots =
    either c.add_handle.result _ _ c.add_handle.ensures.interfaces c.add_handle.ensures.err (λ ok. ap (λ (x : LedgerState). x.slots) (ok there.0 there.1)) (λ err. ap (λ (x : LedgerState). x.slots) err) in
    matched-next c.self.inside _ c.self.invariant refl refl slots refl

pub returns-clause-ok : goal.returns-clause-ok
returns-clause-ok c =
    let inside = c.self.inside in
    let there = some-of (value_at inside.ledger.interfaces c.args.interface.serial) (rw (← c.self.view_is) at c.requires.interface) in
    cloned-made inside.kernel inside.devices inside.ledger inside.steps.items c.args.interface.serial there.0 c.add_handle.new.self c.args.self.now c.add_handle.result there.1 c.self.view_is c.add_handle.ensures.interfaces
