use Rattle.std.proofs.Common.{◌≡◌, ◌++◌, ◌∷◌, [], Some, refl, ap, arith, length}
use Rattle.std.specs.Option.{option_map}
use Rattle.std.proofs.lemmas.List.{length-map}
use Rattle.usb_device_tables.specs.History.{RegistryState, live_count}
use Rattle.usb_device_tables.proofs.ValueLemmas.{live-map}
use Rattle.usb_device_ledger.specs.declared.owners.Claim.{Claim}
use Rattle.usb_device_ledger.specs.OwnerRows.{OwnersState, claim_state}
use Rattle.usb_device_ledger.proofs.OwnerLemmas.{CountsOf-claim, owned-push}
use Rattle.usb_device_ledger.proofs.owners.Owners.open_interface.Goals as goal

pub insert_reserved-requires-clause-room : goal.insert_reserved-requires-clause-room
insert_reserved-requires-clause-room c =
    omega (arith, live-map claim_state c.self.inside.claims.values, ap (λ (s : OwnersState). live_count s.interfaces) c.self.view_is, ap (λ (s : OwnersState). s.claim_capacity) c.self.view_is, c.requires.room)

pub insert_reserved-requires-clause-serials : goal.insert_reserved-requires-clause-serials
insert_reserved-requires-clause-serials c =
    omega (arith, length-map c.self.inside.claims.values (option_map claim_state), ap (λ (s : OwnersState). length s.interfaces) c.self.view_is, c.requires.serials)

pub invariant_of-self : goal.invariant_of-self
invariant_of-self c =
    let claims = c.self.inside.claims.values in
    let pushed : c.insert_reserved.new.self.values ≡ claims ++ Some _ ∷ [] = ap (λ (r : RegistryState Claim). r.values) c.insert_reserved.ensures.inserted in
    record {
      counts = rw pushed (CountsOf-claim claims c.self.inside.rows _ c.self.invariant.counts refl c.new.ensures.empty);
      owned = rw pushed (owned-push claims _ c.self.invariant.owned refl);
      alive = c.self.invariant.alive;
    }
