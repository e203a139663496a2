-- Nothing is kept that has gone: of the rows, and of what they are to users.
use Rattle.std.proofs.Common.{◌≡◌, ℕ, List, map, true, Option, Some, None, refl, ap, sym, ◌∙◌}
use Rattle.std.specs.Prelude.{◌||◌, nat_lt}
use Rattle.std.specs.List.{count_by}
use Rattle.std.specs.Option.{option_map}
use Rattle.std.proofs.lemmas.Option.{none-some, same_Some}
use Rattle.usb_device_tables.specs.History.{value_at}
use Rattle.usb_device_tables.proofs.ValueLemmas.{value-map}
use Rattle.usb_device_ledger.specs.declared.owners.Claim.{Claim}
use Rattle.usb_device_ledger.specs.declared.owners.EndpointRow.{EndpointRow}
use Rattle.usb_device_ledger.specs.Entries.{HostTicket, HostEndpoint, ClaimedInterface}
use Rattle.usb_device_ledger.specs.Owners.{lives}
use Rattle.usb_device_ledger.specs.OwnerRows.{CountsOf, AreOwned, AreAlive, claim_state, endpoint_of, is_alive_on, is_counted, has_owners}
use Rattle.usb_device_ledger.specs.LedgerState.{Tied}
use Rattle.usb_device_ledger.specs.Kept.{EachIsOwned, EachLives}
use Rattle.usb_device_ledger.proofs.LedgerLemmas.{is_owned-rows, lives-row}

-- what is there once all was mapped
mapped : {X Y : Type 0} (f : X → Y) (o : Option X) (y : Y) → option_map f o ≡ Some y → (x : X) × (o ≡ Some x) × (f x ≡ y)
mapped f None y at = absurd (none-some y at)
mapped f (Some x) y at = (x, refl, same_Some (f x) y at)

-- each interface has an owner, by the counts
pub counted-each : (claims : List (Option Claim)) (rows : List (Option EndpointRow)) → CountsOf claims rows → AreOwned claims → (i : ℕ) (c : ClaimedInterface) → value_at (map (option_map claim_state) claims) i ≡ Some c → is_counted rows i c ≡ true
counted-each claims rows counts owned i c at =
    let there = mapped claim_state (value_at claims i) c (sym (value-map claim_state claims i) ∙ at) in
    let claim : Claim = there.0 in
    let handles : claim.handles ≡ c.handles = ap (λ (z : ClaimedInterface). z.handles) there.2 in
    let living : claim.living ≡ count_by (is_alive_on i) rows = counts.living i claim there.1 in
    let test : has_owners claim ≡ is_counted rows i c = ap (λ n. nat_lt 0 n || nat_lt 0 claim.living) handles ∙ ap (λ n. nat_lt 0 c.handles || nat_lt 0 n) living in
    sym test ∙ owned i claim there.1

-- and by its endpoints
pub owned-each : (rows : List (Option EndpointRow)) (tickets : List HostTicket) (interfaces : List (Option ClaimedInterface)) → Tied rows tickets → ((i : ℕ) (c : ClaimedInterface) → value_at interfaces i ≡ Some c → is_counted rows i c ≡ true) → EachIsOwned tickets (map (option_map endpoint_of) rows) interfaces
owned-each rows tickets interfaces tied counted i c at = is_owned-rows rows tickets tied i c ∙ counted i c at

-- each endpoint lives
pub lives-each : (rows : List (Option EndpointRow)) (tickets : List HostTicket) → Tied rows tickets → AreAlive rows → EachLives tickets (map (option_map endpoint_of) rows)
lives-each rows tickets tied alive k e at =
    let there = mapped endpoint_of (value_at rows k) e (sym (value-map endpoint_of rows k) ∙ at) in
    let row : EndpointRow = there.0 in
    ap (λ (x : HostEndpoint). lives tickets (k, x)) (sym there.2) ∙ lives-row rows tickets tied k row there.1 ∙ alive k row there.1
