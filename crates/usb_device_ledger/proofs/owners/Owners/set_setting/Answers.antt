use Rattle.std.proofs.Common.{◌≡◌, Some, None, refl, sym, ◌∙◌}
use Rattle.std.specs.Option.{option_map}
use Rattle.std.proofs.lemmas.List.{map-set}
use Rattle.std.proofs.lemmas.Option.{none-some, same_Some}
use Rattle.usb_device_tables.specs.History.{value_at}
use Rattle.usb_device_tables.proofs.ValueLemmas.{some-of}
use Rattle.usb_device_ledger.specs.declared.owners.Claim.{Claim}
use Rattle.usb_device_ledger.specs.OwnerRows.{claim_state}
use Rattle.usb_device_ledger.proofs.OwnerLemmas.{CountsOf-handle, owned-put, state-at, claim-there}
use Rattle.usb_device_ledger.proofs.owners.Owners.set_setting.Goals as goal
use Rattle.usb_device_ledger.proofs.owners.Owners.set_setting.Goals.{in-Some, in_default}

pub invariant_of-self : goal.invariant_of-self
invariant_of-self c =
    let claims = c.self.inside.claims.values in
    let key = c.args.interface.serial in
    elim c.match-get_mut.branch [
      | in-Some w ↦
          let claim = w.in-Some.claim.now in
          let here : value_at claims key ≡ Some claim = sym w.in-Some.ensures.value in
          let next : Claim = record claim { setting = c.args.setting } in
          rw w.self-inside-is (record {
            counts = CountsOf-handle claims c.self.inside.rows key claim next c.self.invariant.counts here refl refl;
            owned = owned-put claims key next c.self.invariant.owned (c.self.invariant.owned key claim here);
            alive = c.self.invariant.alive;
          })
      | in_default w ↦ rw w.self-inside-is c.self.invariant
    ]

pub returns : goal.returns
returns c = record {
  interfaces = λ x there.
      let claims = c.self.inside.claims.values in
      let key = c.args.interface.serial in
      elim c.match-get_mut.branch [
        | in-Some w ↦
            let claim = w.in-Some.claim.now in
            let here : value_at claims key ≡ Some claim = sym w.in-Some.ensures.value in
            let state : value_at c.args.self.now.interfaces key ≡ Some (claim_state claim) = rw (← c.self.view_is) (state-at claims key claim here) in
            let same : claim_state claim ≡ x = same_Some (claim_state claim) x (sym state ∙ there) in
            let next : Claim = record claim { setting = c.args.setting } in
            rw (w.self-inside-is, ← same) (rw (← c.self.view_is) (rw (map-set (option_map claim_state) claims key (Some next)) refl))
        | in_default w ↦
            let none : value_at claims key ≡ None = sym w.in_default.ensures.value in
            let some = some-of (value_at claims key) (claim-there claims key (rw (← c.self.view_is) at c.requires.there)) in
            absurd (none-some some.0 (sym none ∙ some.1))
      ];
}
