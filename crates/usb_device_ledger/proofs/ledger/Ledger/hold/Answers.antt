use Rattle.std.proofs.Common.{◌≡◌, ◌+◌, ◌∷◌, [], length, length-append, map, set, Some, true, ap, sym, refl, ◌∙◌, arith}
use Rattle.std.specs.Option.{option_map}
use Rattle.std.proofs.lemmas.List.{map-append, length-map}
use Rattle.std.proofs.lemmas.List.Sums.{count_by-le-length}
use Rattle.usb_device_tables.specs.History.{value_at}
use Rattle.usb_device_tables.proofs.ValueLemmas.{some-of}
use Rattle.usb_device_ledger.specs.declared.owners.EndpointRow.{EndpointRow}
use Rattle.usb_device_ledger.specs.TicketStates as slot
use Rattle.usb_device_ledger.specs.Owners.{is_ticket_of}
use Rattle.usb_device_ledger.specs.OwnerRows.{endpoint_of}
use Rattle.usb_device_ledger.specs.LedgerState.{LedgerState, host_ticket}
use Rattle.usb_device_ledger.proofs.OwnerLemmas.{with_row-at}
use Rattle.usb_device_ledger.proofs.LedgerLemmas.{Tied-add, counts-at, row-there, endpoint-at, endpoints-kept}
use Rattle.usb_device_ledger.proofs.ledger.Ledger.hold.Goals as goal

pub invariant_of-self : goal.invariant_of-self
invariant_of-self c =
    let rows = c.self.inside.owners.rows in
    let tickets = map host_ticket c.self.inside.tickets.slots in
    let there = some-of (value_at rows c.args.key) (row-there rows c.args.key (rw (← c.self.view_is) at c.requires.there)) in
    let e = there.0 in
    let next : EndpointRow = record e { is_open = true; tickets = e.tickets + 1 } in
    let owners = c.add_ticket.ensures.rows e there.1 in
    rw (owners, c.add.ensures.slots, with_row-at rows c.args.key e true (e.tickets + 1) there.1, map-append) (Tied-add rows tickets (host_ticket (slot.HeldBy c.args.key c.args.transfer)) c.args.key e next c.self.invariant refl there.1 refl)

pub returns : goal.returns
returns c =
    let rows = c.self.inside.owners.rows in
    let tickets = map host_ticket c.self.inside.tickets.slots in
    let there = some-of (value_at rows c.args.key) (row-there rows c.args.key (rw (← c.self.view_is) at c.requires.there)) in
    let e = there.0 in
    let next : EndpointRow = record e { is_open = true; tickets = e.tickets + 1 } in
    let owners = c.add_ticket.ensures.rows e there.1 in
    let is_open : e.is_open ≡ true = c.requires.open (endpoint_of e) (ap (λ (l : LedgerState). value_at l.endpoints c.args.key) (sym c.self.view_is) ∙ endpoint-at rows c.args.key e there.1) in
    let kept : map (option_map endpoint_of) (set rows c.args.key (Some next)) ≡ map (option_map endpoint_of) rows = endpoints-kept rows c.args.key e next there.1 (rw is_open refl) in
    record { slots = rw (← c.self.view_is, owners, c.add.ensures.slots, c.add.ensures.slot_count, with_row-at rows c.args.key e true (e.tickets + 1) there.1, kept) refl }

pub add-requires : goal.add-requires
add-requires c = record { room = rw (← c.self.view_is) at c.requires.room }

pub add_ticket-requires-clause-there : goal.add_ticket-requires-clause-there
add_ticket-requires-clause-there c = row-there c.self.inside.owners.rows c.args.key (rw (← c.self.view_is) at c.requires.there)

pub add_ticket-requires-clause-open : goal.add_ticket-requires-clause-open
add_ticket-requires-clause-open c = λ x there.
    c.requires.open (endpoint_of x) (ap (λ (l : LedgerState). value_at l.endpoints c.args.key) (sym c.self.view_is) ∙ endpoint-at c.self.inside.owners.rows c.args.key x there)

pub add_ticket-requires-clause-small : goal.add_ticket-requires-clause-small
add_ticket-requires-clause-small c = λ e there.
    let slots = c.self.inside.tickets.slots in
    let tickets = map host_ticket slots in
    let one = slot.HeldBy c.args.key c.args.transfer ∷ [] in
    let more : length c.add.new.self.slots ≡ length slots + 1 = ap length c.add.ensures.slots ∙ length-append slots one in
    omega (arith, counts-at c.self.inside.owners.rows tickets c.args.key e c.self.invariant there, count_by-le-length (is_ticket_of c.args.key) tickets, length-map slots host_ticket, more, c.add.ensures.few)
