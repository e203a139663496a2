use Rattle.std.proofs.Common.{◌≡◌, ◌+◌, Some, refl, sym, ap, ◌∙◌, arith}
use Rattle.std.specs.Option.{option_map}
use Rattle.std.proofs.lemmas.List.{map-set}
use Rattle.std.proofs.lemmas.Option.{same_Some}
use Rattle.usb_device_tables.specs.History.{value_at}
use Rattle.usb_device_tables.proofs.ValueLemmas.{set-value_same}
use Rattle.usb_device_ledger.specs.declared.owners.Claim.{Claim}
use Rattle.usb_device_ledger.specs.Entries.{ClaimedInterface}
use Rattle.usb_device_ledger.specs.OwnerRows.{claim_state}
use Rattle.usb_device_ledger.proofs.OwnerLemmas.{CountsOf-handle, owned-put, handle-owns, state-at}
use Rattle.usb_device_ledger.proofs.owners.Owners.add_handle.Goals as goal

pub invariant_of-self-then-claim : goal.invariant_of-self-then-claim
invariant_of-self-then-claim c =
    let claims = c.self.inside.claims.values in
    let key = c.args.interface.serial in
    let claim = c.in-Some.claim.now in
    let here : value_at claims key ≡ Some claim = sym c.in-Some.ensures.value in
    record {
      counts = CountsOf-handle claims c.self.inside.rows key claim claim c.self.invariant.counts here refl refl;
      owned = owned-put claims key claim c.self.invariant.owned (c.self.invariant.owned key claim here);
      alive = c.self.invariant.alive;
    }

pub returns-then-claim-clause-err : goal.returns-then-claim-clause-err
returns-then-claim-clause-err c =
    let claims = c.self.inside.claims.values in
    let key = c.args.interface.serial in
    let claim = c.in-Some.claim.now in
    let here : value_at claims key ≡ Some claim = sym c.in-Some.ensures.value in
    rw (← c.self.view_is) (rw (set-value_same claims key claim here) refl)

pub returns-then-claim-clause-full : goal.returns-then-claim-clause-full
returns-then-claim-clause-full c x there =
    let claims = c.self.inside.claims.values in
    let key = c.args.interface.serial in
    let claim = c.in-Some.claim.now in
    let here : value_at claims key ≡ Some claim = sym c.in-Some.ensures.value in
    let state : value_at c.args.self.now.interfaces key ≡ Some (claim_state claim) = rw (← c.self.view_is) (state-at claims key claim here) in
    let same : claim_state claim ≡ x = same_Some (claim_state claim) x (sym state ∙ there) in
    let handles : claim.handles ≡ x.handles = ap (λ (s : ClaimedInterface). s.handles) same in
    omega (arith, handles, c.if-claim.true)

pub invariant_of-self-2 : goal.invariant_of-self-2
invariant_of-self-2 c =
    let claims = c.self.inside.claims.values in
    let key = c.args.interface.serial in
    let claim = c.in-Some.claim.now in
    let here : value_at claims key ≡ Some claim = sym c.in-Some.ensures.value in
    let next : Claim = record claim { handles = claim.handles + 1 } in
    record {
      counts = CountsOf-handle claims c.self.inside.rows key claim next c.self.invariant.counts here refl refl;
      owned = owned-put claims key next c.self.invariant.owned (handle-owns next (omega arith));
      alive = c.self.invariant.alive;
    }

pub returns-clause-interfaces : goal.returns-clause-interfaces
returns-clause-interfaces c x there =
    let claims = c.self.inside.claims.values in
    let key = c.args.interface.serial in
    let claim = c.in-Some.claim.now in
    let here : value_at claims key ≡ Some claim = sym c.in-Some.ensures.value in
    let state : value_at c.args.self.now.interfaces key ≡ Some (claim_state claim) = rw (← c.self.view_is) (state-at claims key claim here) in
    let same : claim_state claim ≡ x = same_Some (claim_state claim) x (sym state ∙ there) in
    let next : Claim = record claim { handles = claim.handles + 1 } in
    rw (← same) (rw (← c.self.view_is) (rw (map-set (option_map claim_state) claims key (Some next)) refl))
