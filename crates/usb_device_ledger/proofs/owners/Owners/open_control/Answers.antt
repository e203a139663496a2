use Rattle.std.proofs.Common.{◌≡◌, ◌++◌, ◌∷◌, [], Some, None, true, arith, refl}
use Rattle.usb_device_ledger.specs.declared.owners.EndpointRow.{EndpointRow}
use Rattle.usb_device_ledger.proofs.OwnerLemmas.{CountsOf-control, alive-push}
use Rattle.usb_device_ledger.proofs.owners.Owners.open_control.Goals as goal

pub invariant_of-self-2 : goal.invariant_of-self-2
invariant_of-self-2 c =
    let row : EndpointRow = record { interface = None; address = c.args.address; is_open = true; tickets = 0 } in
    let rows = c.self.inside.rows in
    let pushed : c.insert.new.self ≡ rows ++ Some row ∷ [] = c.in-Ok.ensures.ok in
    record {
      counts = rw pushed (CountsOf-control c.self.inside.claims.values rows row c.self.invariant.counts refl (omega (arith, c.ranges.address.fits)));
      owned = c.self.invariant.owned;
      alive = rw pushed (alive-push rows row c.self.invariant.alive refl);
    }
