use Rattle.std.proofs.Common.{Some, None, ◌≡◌, ◌++◌, ◌∷◌, [], true, ap, map, set, sym, ◌∙◌, arith, refl}
use Rattle.std.specs.List.{count_by}
use Rattle.std.specs.Option.{option_map}
use Rattle.std.proofs.lemmas.Option.{none-some}
use Rattle.std.proofs.lemmas.List.Sums.{count_by-le-length}
use Rattle.usb_desc.specs.BitSet.{bit_of}
use Rattle.usb_device_tables.specs.History.{value_at}
use Rattle.usb_device_tables.proofs.ValueLemmas.{some-of}
use Rattle.usb_device_ledger.specs.declared.owners.Claim.{Claim}
use Rattle.usb_device_ledger.specs.declared.owners.EndpointRow.{EndpointRow}
use Rattle.usb_device_ledger.specs.OwnerRows.{OwnersState, claim_state, is_alive_on, is_alive_with}
use Rattle.usb_device_ledger.proofs.OwnerLemmas.{CountsOf-row, rows-unused, alive-push, owned-put, living-owns, states-kept, claim-there}
use Rattle.usb_device_ledger.proofs.owners.Owners.open_endpoint.Goals as goal

pub unreachable-requires : goal.unreachable-requires
unreachable-requires c =
    let claims = c.self.inside.claims.values in
    let key = c.args.interface.serial in
    let none : value_at claims key ≡ None = sym c.in_default-get_mut.ensures.value in
    let some = some-of (value_at claims key) (claim-there claims key (rw (← c.self.view_is) at c.requires.there)) in
    none-some some.0 (sym none ∙ some.1)

pub gain-requires : goal.gain-requires
gain-requires c =
    let claims = c.self.inside.claims.values in
    let key = c.args.interface.serial in
    let claim = c.in-Some.claim.now in
    let here : value_at claims key ≡ Some claim = sym c.in-Some.ensures.value in
    let rows = c.self.inside.rows in
    let counted = c.self.invariant.counts.living key claim here in
    record { small = omega (arith, counted, count_by-le-length (is_alive_on key) rows, c.in-Ok.ensures.serial, c.in-Ok.ensures.small) }

pub invariant_of-self-2 : goal.invariant_of-self-2
invariant_of-self-2 c =
    let claims = c.self.inside.claims.values in
    let key = c.args.interface.serial in
    let claim = c.in-Some.claim.now in
    let here : value_at claims key ≡ Some claim = sym c.in-Some.ensures.value in
    let rows = c.self.inside.rows in
    let row : EndpointRow = record { interface = Some c.args.interface; address = c.args.address; is_open = true; tickets = 0 } in
    let same : rows ≡ c.args.self.now.rows = ap (λ (s : OwnersState). s.rows) c.self.view_is in
    let pushed : c.insert.new.self ≡ rows ++ Some row ∷ [] = c.in-Ok.ensures.ok in
    let more = ap (λ (x : Claim). x.living) c.gain.ensures.rest in
    let unused : count_by (is_alive_with key (bit_of c.args.address)) rows ≡ 0 = rows-unused rows key c.args.address c.self.invariant.counts.small (omega (arith, c.ranges.address.fits)) (rw same c.requires.unused) in
    record {
      counts = rw pushed (CountsOf-row claims rows row key refl claim c.gain.new.self c.self.invariant.counts here refl (omega (arith, c.ranges.address.fits)) more c.gain.ensures.bits unused);
      alive = rw pushed (alive-push rows row c.self.invariant.alive refl);
      owned = owned-put claims key c.gain.new.self c.self.invariant.owned (living-owns c.gain.new.self (omega (arith, more)));
    }

pub returns-clause-rows : goal.returns-clause-rows
returns-clause-rows c =
    let claims = c.self.inside.claims.values in
    let key = c.args.interface.serial in
    let claim = c.in-Some.claim.now in
    let here : value_at claims key ≡ Some claim = sym c.in-Some.ensures.value in
    let rows = c.self.inside.rows in
    let row : EndpointRow = record { interface = Some c.args.interface; address = c.args.address; is_open = true; tickets = 0 } in
    let pushed : c.insert.new.self ≡ rows ++ Some row ∷ [] = c.in-Ok.ensures.ok in
    let kept : map (option_map claim_state) (set claims key (Some c.gain.new.self)) ≡ map (option_map claim_state) claims = states-kept claims key claim c.gain.new.self here (ap claim_state c.gain.ensures.rest) in
    rw (← c.self.view_is, kept, pushed) refl
