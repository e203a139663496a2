use Rattle.std.proofs.Common.{◌≡◌, ◌-◌, ◌<◌, ◌∙◌, None, length, map, take, sym, ap, subst, arith}
use Rattle.std.specs.List.{count_by}
use Rattle.std.specs.Option.{ForSome, option_map}
use Rattle.std.proofs.lemmas.List.{length-map}
use Rattle.usb_device_tables.specs.History.{value_at}
use Rattle.usb_device_ledger.specs.LedgerState.{LedgerState, tickets_in, host_ticket}
use Rattle.usb_device_ledger.specs.OwnerRows.{endpoint_of}
use Rattle.usb_device_ledger.specs.Owners.{is_ticket_of}
use Rattle.usb_device_ledger.proofs.LedgerLemmas.{Tied-taken_back, endpoint-at, endpoints-others}
use Rattle.usb_device_ledger.proofs.ledger.Ledger.take_control_back.Goals as goal

pub take_control_back-requires-clause-control : goal.take_control_back-requires-clause-control
take_control_back-requires-clause-control c = λ x at.
    let rows = c.self.inside.owners.rows in
    let n = ap (λ k. k - 1) (length-map rows (option_map endpoint_of)) in
    let on = subst (λ (l : LedgerState). ForSome (value_at l.endpoints (length l.endpoints - 1)) (λ e. e.interface ≡ None)) (sym c.self.view_is) c.requires.control in
    on (endpoint_of x) (ap (value_at (map (option_map endpoint_of) rows)) n ∙ endpoint-at rows (length rows - 1) x at)

pub invariant_of-self : goal.invariant_of-self
invariant_of-self c =
    let rows = c.self.inside.owners.rows in
    let tickets = map host_ticket c.self.inside.tickets.slots in
    let n = length-map rows (option_map endpoint_of) in
    let some : 0 < length rows = omega (arith, n, subst (λ (l : LedgerState). 0 < length l.endpoints) (sym c.self.view_is) c.requires.some) in
    let unheld = subst (λ (l : LedgerState). count_by (is_ticket_of (length l.endpoints - 1)) (tickets_in l) ≡ 0) (sym c.self.view_is) c.requires.unheld in
    rw c.take_control_back.ensures.rows (Tied-taken_back rows tickets some c.self.invariant (ap (λ k. count_by (is_ticket_of (k - 1)) tickets) (sym n) ∙ unheld))

pub returns : goal.returns
returns c =
    record {
      endpoints = rw (c.take_control_back.ensures.rows, endpoints-others c.self.inside.owners.rows) (ap (λ (l : LedgerState). record l { endpoints = take (length l.endpoints - 1) l.endpoints }) c.self.view_is);
    }
