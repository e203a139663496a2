use Rattle.std.proofs.Common.{◌≡◌, None, ap, sym, ◌∙◌, arith}
use Rattle.std.specs.List.{list_any}
use Rattle.std.proofs.lemmas.Option.{none-some}
use Rattle.usb_desc.specs.BitSet.{bit_of}
use Rattle.usb_device_tables.specs.History.{value_at}
use Rattle.usb_device_tables.proofs.ValueLemmas.{some-of}
use Rattle.usb_device_ledger.specs.OwnerRows.{OwnersState, uses_row}
use Rattle.usb_device_ledger.proofs.OwnerLemmas.{bit-used, rows-used, claim-there}
use Rattle.usb_device_ledger.proofs.owners.Owners.is_used.Goals as goal

pub returns-in-Some : goal.returns-in-Some
returns-in-Some c =
    let claims = c.self.inside.claims.values in
    let key = c.args.interface.serial in
    let used = bit-used claims c.self.inside.rows key (bit_of c.args.address) c.in-Some.claim.now c.self.invariant.counts (sym c.in-Some.ensures.value) in
    let by_rows = rows-used c.self.inside.rows key c.args.address c.self.invariant.counts.small (omega (arith, c.ranges.address.fits)) in
    record { used = c.is_set.ensures.member ∙ used ∙ sym by_rows ∙ ap (λ (s : OwnersState). list_any (uses_row key c.args.address) s.rows) c.self.view_is }

pub returns-in-None : goal.returns-in-None
returns-in-None c =
    let claims = c.self.inside.claims.values in
    let key = c.args.interface.serial in
    let none : value_at claims key ≡ None = sym c.in-None.ensures.value in
    let some = some-of (value_at claims key) (claim-there claims key (rw (← c.self.view_is) at c.requires.there)) in
    absurd (none-some some.0 (sym none ∙ some.1))
