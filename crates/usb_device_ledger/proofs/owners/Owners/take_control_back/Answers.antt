use Rattle.std.proofs.Common.{◌≡◌, ◌-◌, ◌<◌, None, length, sym, subst}
use Rattle.std.specs.Option.{ForSome}
use Rattle.usb_device_tables.specs.History.{value_at}
use Rattle.usb_device_ledger.specs.OwnerRows.{OwnersState, row_interface}
use Rattle.usb_device_ledger.proofs.OwnerLemmas.{owners-taken_back}
use Rattle.usb_device_ledger.proofs.owners.Owners.take_control_back.Goals as goal

pub invariant_of-self : goal.invariant_of-self
invariant_of-self c =
    let some = subst (λ (o : OwnersState). 0 < length o.rows) (sym c.self.view_is) c.requires.some in
    let on = subst (λ (o : OwnersState). ForSome (value_at o.rows (length o.rows - 1)) (λ e. row_interface e ≡ None)) (sym c.self.view_is) c.requires.control in
    let back = owners-taken_back c.self.inside.claims.values c.self.inside.rows some on c.self.invariant.counts c.self.invariant.alive in
    rw c.take_back.ensures.rest (record { counts = back.0; owned = c.self.invariant.owned; alive = back.1 })
