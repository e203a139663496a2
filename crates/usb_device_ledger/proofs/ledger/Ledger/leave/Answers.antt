use Rattle.std.proofs.Common.{◌≡◌, map, set, Some, false, ap, sym, refl, ◌∙◌}
use Rattle.std.specs.Option.{option_map}
use Rattle.std.proofs.lemmas.List.{map-set}
use Rattle.std.proofs.lemmas.Option.{same_Some}
use Rattle.usb_device_tables.specs.History.{value_at}
use Rattle.usb_device_tables.proofs.ValueLemmas.{some-of}
use Rattle.usb_device_ledger.specs.declared.owners.EndpointRow.{EndpointRow}
use Rattle.usb_device_ledger.specs.Releases.{claim_of, interface_at, endpoints_left}
use Rattle.usb_device_ledger.specs.OwnerRows.{OwnersState, endpoint_of, interface_of_row, rows_left, row_gone}
use Rattle.usb_device_ledger.specs.LedgerState.{LedgerState, Tied, host_ticket, tickets_in}
use Rattle.usb_device_ledger.specs.Entries.{HostEndpoint}
use Rattle.usb_device_ledger.proofs.OwnerLemmas.{with_row-at}
use Rattle.usb_device_ledger.proofs.LedgerLemmas.{Tied-row, Tied-left, claim_of-rows, left-rows, interface-row, interface-set, row-there, endpoint-at}
use Rattle.usb_device_ledger.proofs.ledger.Ledger.leave.Goals as goal

pub invariant_of-self : goal.invariant_of-self
invariant_of-self c =
    let rows = c.self.inside.owners.rows in
    let key = c.args.key in
    let tickets = map host_ticket c.self.inside.tickets.slots in
    let there = some-of (value_at rows key) (row-there rows key (rw (← c.self.view_is) at c.requires.there)) in
    let e = there.0 in
    let next : EndpointRow = record e { is_open = false } in
    let written = set rows key (Some next) in
    let row_is = with_row-at rows key e false e.tickets there.1 in
    let owners = c.close_endpoint.ensures.rows e there.1 in
    let tied : Tied written tickets = Tied-row rows tickets key e next c.self.invariant there.1 refl in
    let after : c.close_endpoint.new.self.rows ≡ rows_left written key = ap (λ (o : OwnersState). o.rows) owners ∙ ap (λ r. rows_left r key) row_is in
    let left : Tied c.close_endpoint.new.self.rows tickets = rw after (Tied-left written tickets key tied) in
    left

pub returns-clause-endpoints : goal.returns-clause-endpoints
returns-clause-endpoints c = λ x at.
    let rows = c.self.inside.owners.rows in
    let key = c.args.key in
    let tickets = map host_ticket c.self.inside.tickets.slots in
    let there = some-of (value_at rows key) (row-there rows key (rw (← c.self.view_is) at c.requires.there)) in
    let e = there.0 in
    let next : EndpointRow = record e { is_open = false } in
    let written = set rows key (Some next) in
    let row_is = with_row-at rows key e false e.tickets there.1 in
    let owners = c.close_endpoint.ensures.rows e there.1 in
    let tied : Tied written tickets = Tied-row rows tickets key e next c.self.invariant there.1 refl in
    let same : x ≡ endpoint_of e = same_Some x (endpoint_of e) (sym at ∙ (ap (λ (l : LedgerState). value_at l.endpoints key) (sym c.self.view_is) ∙ endpoint-at rows key e there.1)) in
    let closed : map (option_map endpoint_of) written ≡ set (map (option_map endpoint_of) rows) key (Some (endpoint_of next)) = map-set (option_map endpoint_of) rows key (Some next) in
    let ended : c.close_endpoint.result ≡ claim_of c.self.inside.owners.interfaces tickets (set (map (option_map endpoint_of) rows) key (Some (endpoint_of next))) key =
    c.close_endpoint.ensures.gone e there.1 ∙ ap (λ r. row_gone c.self.inside.owners.interfaces r key) row_is ∙ sym (claim_of-rows written tickets tied c.self.inside.owners.interfaces key) ∙ ap (λ endpoints. claim_of c.self.inside.owners.interfaces tickets endpoints key) closed in
    let interface : interface_at (set (map (option_map endpoint_of) rows) key (Some (endpoint_of next))) key ≡ interface_of_row rows key =
    ap (λ endpoints. interface_at endpoints key) (sym closed) ∙ interface-row written key ∙ interface-set rows key e next there.1 refl in
    let left : map (option_map endpoint_of) (rows_left written key) ≡ endpoints_left tickets (set (map (option_map endpoint_of) rows) key (Some (endpoint_of next))) key =
    sym (left-rows written tickets tied key) ∙ ap (λ endpoints. endpoints_left tickets endpoints key) closed in
    rw (← c.self.view_is, same, owners, row_is, left, interface, ended) refl

pub returns-clause-claim : goal.returns-clause-claim
returns-clause-claim c = λ x at.
    let rows = c.self.inside.owners.rows in
    let key = c.args.key in
    let tickets = map host_ticket c.self.inside.tickets.slots in
    let there = some-of (value_at rows key) (row-there rows key (rw (← c.self.view_is) at c.requires.there)) in
    let e = there.0 in
    let next : EndpointRow = record e { is_open = false } in
    let written = set rows key (Some next) in
    let row_is = with_row-at rows key e false e.tickets there.1 in
    let owners = c.close_endpoint.ensures.rows e there.1 in
    let tied : Tied written tickets = Tied-row rows tickets key e next c.self.invariant there.1 refl in
    let same : x ≡ endpoint_of e = same_Some x (endpoint_of e) (sym at ∙ (ap (λ (l : LedgerState). value_at l.endpoints key) (sym c.self.view_is) ∙ endpoint-at rows key e there.1)) in
    let closed : map (option_map endpoint_of) written ≡ set (map (option_map endpoint_of) rows) key (Some (endpoint_of next)) = map-set (option_map endpoint_of) rows key (Some next) in
    let ended : c.close_endpoint.result ≡ claim_of c.self.inside.owners.interfaces tickets (set (map (option_map endpoint_of) rows) key (Some (endpoint_of next))) key =
    c.close_endpoint.ensures.gone e there.1 ∙ ap (λ r. row_gone c.self.inside.owners.interfaces r key) row_is ∙ sym (claim_of-rows written tickets tied c.self.inside.owners.interfaces key) ∙ ap (λ endpoints. claim_of c.self.inside.owners.interfaces tickets endpoints key) closed in
    let old = c.args.self.now in
    ended
    ∙ ap (λ (l : LedgerState). claim_of l.interfaces (tickets_in l) (set l.endpoints key (Some (endpoint_of next))) key) c.self.view_is
    ∙ ap (λ (y : HostEndpoint). claim_of old.interfaces (tickets_in old) (set old.endpoints key (Some (record y { is_open = false }))) key) (sym same)
