use Rattle.std.proofs.Common.{◌≡◌, ◌-◌, Some, None, set, refl, sym, ap, ◌∙◌}
use Rattle.std.specs.Prelude.{option_and_then}
use Rattle.std.specs.Option.{option_map}
use Rattle.std.proofs.lemmas.List.{map-set}
use Rattle.std.proofs.lemmas.Option.{none-some, same_Some}
use Rattle.usb_device_tables.specs.History.{RegistryState, value_at}
use Rattle.usb_device_tables.proofs.ValueLemmas.{some-of, value-set_same}
use Rattle.usb_device_ledger.specs.declared.owners.Claim.{Claim}
use Rattle.usb_device_ledger.specs.Releases.{without_claim}
use Rattle.usb_device_ledger.specs.OwnerRows.{OwnersState, claim_state, claim_if}
use Rattle.usb_device_ledger.proofs.OwnerLemmas.{CountsOf-handle, CountsOf-ended, owned-ended, claim_gone-at, state-at, states-without, claim-there}
use Rattle.usb_device_ledger.proofs.owners.Owners.close_handle.Goals as goal

pub returns-in_default : goal.returns-in_default
returns-in_default c =
    let claims = c.self.inside.claims.values in
    let key = c.args.interface.serial in
    let none : value_at claims key ≡ None = sym c.in_default.ensures.value in
    let some = some-of (value_at claims key) (claim-there claims key (rw (← c.self.view_is) at c.requires.there)) in
    absurd (none-some some.0 (sym none ∙ some.1))

pub overflow_sub-claim : goal.overflow_sub-claim
overflow_sub-claim c =
    let claims = c.self.inside.claims.values in
    let key = c.args.interface.serial in
    let claim = c.in-Some.claim.now in
    let here : value_at claims key ≡ Some claim = sym c.in-Some.ensures.value in
    c.requires.some (claim_state claim) (rw (← c.self.view_is) (state-at claims key claim here))

pub invariant_of-self-2 : goal.invariant_of-self-2
invariant_of-self-2 c =
    let claims = c.self.inside.claims.values in
    let key = c.args.interface.serial in
    let claim = c.in-Some.claim.now in
    let here : value_at claims key ≡ Some claim = sym c.in-Some.ensures.value in
    let next : Claim = record claim { handles = claim.handles - 1 } in
    let put : value_at (set claims key (Some next)) key ≡ Some next = value-set_same claims key claim (Some next) here in
    let ended : c.end_claim.result ≡ claim_if next = c.end_claim.ensures.ended ∙ ap (option_and_then claim_if) put in
    let left : c.end_claim.new.claims.values ≡ without_claim (set claims key (Some next)) (Some key) (claim_if next) = ap (λ (r : RegistryState Claim). r.values) c.end_claim.ensures.gone ∙ ap (without_claim (set claims key (Some next)) (Some key)) ended in
    let counts = CountsOf-handle claims c.self.inside.rows key claim next c.self.invariant.counts here refl refl in
    record {
      counts = rw left (CountsOf-ended (set claims key (Some next)) c.self.inside.rows key next counts put);
      owned = rw left (owned-ended claims key next c.self.invariant.owned);
      alive = c.self.invariant.alive;
    }

pub returns-clause-interfaces : goal.returns-clause-interfaces
returns-clause-interfaces c x there =
    let claims = c.self.inside.claims.values in
    let key = c.args.interface.serial in
    let claim = c.in-Some.claim.now in
    let here : value_at claims key ≡ Some claim = sym c.in-Some.ensures.value in
    let state : value_at c.args.self.now.interfaces key ≡ Some (claim_state claim) = rw (← c.self.view_is) (state-at claims key claim here) in
    let same : claim_state claim ≡ x = same_Some (claim_state claim) x (sym state ∙ there) in
    let next : Claim = record claim { handles = claim.handles - 1 } in
    let left : c.end_claim.new.claims.values ≡ without_claim (set claims key (Some next)) (Some key) c.end_claim.result = ap (λ (r : RegistryState Claim). r.values) c.end_claim.ensures.gone in
    let room : c.end_claim.new.claims.capacity ≡ c.self.inside.claims.capacity = ap (λ (r : RegistryState Claim). r.capacity) c.end_claim.ensures.gone in
    rw (← same) (rw (← c.self.view_is) (rw (left, room, states-without (set claims key (Some next)) (Some key) c.end_claim.result, map-set (option_map claim_state) claims key (Some next)) refl))

pub returns-clause-gone : goal.returns-clause-gone
returns-clause-gone c x there =
    let claims = c.self.inside.claims.values in
    let key = c.args.interface.serial in
    let claim = c.in-Some.claim.now in
    let here : value_at claims key ≡ Some claim = sym c.in-Some.ensures.value in
    let state : value_at c.args.self.now.interfaces key ≡ Some (claim_state claim) = rw (← c.self.view_is) (state-at claims key claim here) in
    let same : claim_state claim ≡ x = same_Some (claim_state claim) x (sym state ∙ there) in
    let next : Claim = record claim { handles = claim.handles - 1 } in
    let put : value_at (set claims key (Some next)) key ≡ Some next = value-set_same claims key claim (Some next) here in
    let ended : c.end_claim.result ≡ claim_if next = c.end_claim.ensures.ended ∙ ap (option_and_then claim_if) put in
    let rows : c.self.inside.rows ≡ c.args.self.now.rows = ap (λ (s : OwnersState). s.rows) c.self.view_is in
    let after : value_at (set c.args.self.now.interfaces key (Some (claim_state next))) key ≡ Some (claim_state next) = value-set_same c.args.self.now.interfaces key (claim_state claim) (Some (claim_state next)) state in
    rw (← same) (ended ∙ sym (claim_gone-at (set c.args.self.now.interfaces key (Some (claim_state next))) c.args.self.now.rows key next after (rw (← rows) (c.self.invariant.counts.living key claim here))))
