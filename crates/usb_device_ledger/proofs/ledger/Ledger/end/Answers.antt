use Rattle.std.proofs.Common.{◌≡◌, ◌-◌, ℕ, List, Option, map, set, Some, slice_get, ap, sym, refl, ◌∙◌}
use Rattle.std.specs.Option.{option_map}
use Rattle.std.proofs.lemmas.List.{map-set}
use Rattle.std.proofs.lemmas.Option.{same_Some}
use Rattle.usb_device_tables.specs.History.{value_at}
use Rattle.usb_device_tables.proofs.ValueLemmas.{some-of}
use Rattle.usb_device_ledger.specs.declared.ends.TicketEnd.{TicketEnd}
use Rattle.usb_device_ledger.specs.declared.owners.EndpointRow.{EndpointRow}
use Rattle.usb_device_ledger.specs.TicketStates.{TicketState, state_of}
use Rattle.usb_device_ledger.specs.TicketStates as slot
use Rattle.usb_device_ledger.specs.Entries.{HostTicket, ClaimedInterface}
use Rattle.usb_device_ledger.specs.Releases.{claim_of, endpoints_left}
use Rattle.usb_device_ledger.specs.OwnerRows.{OwnersState, endpoint_of, rows_left, row_gone, with_row}
use Rattle.usb_device_ledger.specs.LedgerState.{Tied, host_ticket, ticket_key, slot_data}
use Rattle.usb_device_ledger.proofs.StandingLemmas.{standing-slot, keyed-standing}
use Rattle.usb_device_ledger.proofs.OwnerLemmas.{with_row-at}
use Rattle.usb_device_ledger.proofs.LedgerLemmas.{key-there, counted-some, Tied-end, Tied-left, claim_of-rows, left-rows, interface-row, endpoints-kept, ticket-at}
use Rattle.usb_device_ledger.proofs.ledger.Ledger.end.Goals as goal

-- rows of which one has a ticket less
abbrev fewer : List (Option EndpointRow) → ℕ → EndpointRow → List (Option EndpointRow)
fewer rows own e = set rows own (Some (record e { tickets = e.tickets - 1 }))

-- the tickets when one has this end
abbrev tickets_with : List TicketState → ℕ → TicketEnd → List HostTicket
tickets_with slots ticket end = map host_ticket (set slots ticket (slot.Ended end))

-- the row of the endpoint of a ticket that ends
record Row (rows : List (Option EndpointRow)) (slots : List TicketState) (ticket own : ℕ) (end : TicketEnd) : Type 0 where
  e : EndpointRow
  there : value_at rows own ≡ Some e
  row_is : with_row rows own e.is_open (e.tickets - 1) ≡ fewer rows own e
  tied : Tied (fewer rows own e) (tickets_with slots ticket end)
  kept : map (option_map endpoint_of) (fewer rows own e) ≡ map (option_map endpoint_of) rows

row : (rows : List (Option EndpointRow)) (slots : List TicketState) (ticket own : ℕ) (end : TicketEnd) (s : TicketState) → Tied rows (map host_ticket slots) → slice_get slots ticket ≡ Some s → ticket_key (host_ticket s) ≡ Some own → Row rows slots ticket own end
row rows slots ticket own end s tied at key =
    let here = ticket-at slots ticket s at in
    let found = some-of (value_at rows own) (key-there rows (map host_ticket slots) ticket own (host_ticket s) tied here key) in
    let e = found.0 in
    record {
      e = e;
      there = found.1;
      row_is = with_row-at rows own e e.is_open (e.tickets - 1) found.1;
      tied = rw (map-set host_ticket slots ticket (slot.Ended end)) (Tied-end rows (map host_ticket slots) ticket own (host_ticket s) e end tied here key found.1);
      kept = endpoints-kept rows own e (record e { tickets = e.tickets - 1 }) found.1 refl;
    }

pub end_ticket-claim-requires-clause-there : goal.end_ticket-claim-requires-clause-there
end_ticket-claim-requires-clause-there c =
    let rows = c.self.inside.owners.rows in
    let slots = c.self.inside.tickets.slots in
    let s = state_of c.end-standing.result in
    let at : slice_get slots c.args.ticket ≡ Some s = standing-slot slots c.args.ticket c.end-standing.result c.end-standing.ensures.standing in
    let key = c.into_parts-parts.ensures.key in
    key-there rows (map host_ticket slots) c.args.ticket c.into_parts-parts.result.key (host_ticket s) c.self.invariant (ticket-at slots c.args.ticket s at) key

pub end_ticket-claim-requires-clause-some : goal.end_ticket-claim-requires-clause-some
end_ticket-claim-requires-clause-some c = λ e there.
    let rows = c.self.inside.owners.rows in
    let slots = c.self.inside.tickets.slots in
    let s = state_of c.end-standing.result in
    let at : slice_get slots c.args.ticket ≡ Some s = standing-slot slots c.args.ticket c.end-standing.result c.end-standing.ensures.standing in
    let key = c.into_parts-parts.ensures.key in
    counted-some rows (map host_ticket slots) c.args.ticket c.into_parts-parts.result.key (host_ticket s) e c.self.invariant (ticket-at slots c.args.ticket s at) key there

pub invariant_of-self : goal.invariant_of-self
invariant_of-self c =
    let rows = c.self.inside.owners.rows in
    let slots = c.self.inside.tickets.slots in
    let s = state_of c.end-standing.result in
    let at : slice_get slots c.args.ticket ≡ Some s = standing-slot slots c.args.ticket c.end-standing.result c.end-standing.ensures.standing in
    let key = c.into_parts-parts.ensures.key in
    let r = row rows slots c.args.ticket c.into_parts-parts.result.key c.args.end s c.self.invariant at key in
    let after : c.end_ticket-claim.new.self.rows ≡ rows_left (fewer rows c.into_parts-parts.result.key r.e) c.into_parts-parts.result.key =
    ap (λ (o : OwnersState). o.rows) (c.end_ticket-claim.ensures.rows r.e r.there) ∙ ap (λ l. rows_left l c.into_parts-parts.result.key) r.row_is in
    let left : Tied c.end_ticket-claim.new.self.rows (map host_ticket c.end-standing.new.self.slots) =
    rw (after, c.end-standing.ensures.slots) (Tied-left (fewer rows c.into_parts-parts.result.key r.e) (tickets_with slots c.args.ticket c.args.end) c.into_parts-parts.result.key r.tied) in
    left

-- the claim that ends with a ticket
claim_is : {rows : List (Option EndpointRow)} {slots : List TicketState} {ticket own : ℕ} {end : TicketEnd} (interfaces : List (Option ClaimedInterface)) (r : Row rows slots ticket own end)
    → row_gone interfaces (with_row rows own r.e.is_open (r.e.tickets - 1)) own ≡ claim_of interfaces (tickets_with slots ticket end) (map (option_map endpoint_of) rows) own
claim_is {rows} {slots} {ticket} {own} {end} interfaces r =
    ap (λ l. row_gone interfaces l own) r.row_is
    ∙ sym (claim_of-rows (fewer rows own r.e) (tickets_with slots ticket end) r.tied interfaces own)
    ∙ ap (λ endpoints. claim_of interfaces (tickets_with slots ticket end) endpoints own) r.kept

pub returns-clause-slots : goal.returns-clause-slots
returns-clause-slots c = λ x here.
    let rows = c.self.inside.owners.rows in
    let slots = c.self.inside.tickets.slots in
    let s = state_of c.end-standing.result in
    let at : slice_get slots c.args.ticket ≡ Some s = standing-slot slots c.args.ticket c.end-standing.result c.end-standing.ensures.standing in
    let key = c.into_parts-parts.ensures.key in
    let r = row rows slots c.args.ticket c.into_parts-parts.result.key c.args.end s c.self.invariant at key in
    let own = c.into_parts-parts.result.key in
    let interfaces = c.self.inside.owners.interfaces in
    let tickets = tickets_with slots c.args.ticket c.args.end in
    let ended : c.end_ticket-claim.result ≡ claim_of interfaces tickets (map (option_map endpoint_of) rows) own =
    c.end_ticket-claim.ensures.gone r.e r.there ∙ claim_is interfaces r in
    let same : x ≡ s = same_Some x s (sym here ∙ rw (← c.self.view_is) at) in
    let left : map (option_map endpoint_of) (rows_left (fewer rows own r.e) own) ≡ endpoints_left tickets (map (option_map endpoint_of) rows) own =
    sym (left-rows (fewer rows own r.e) tickets r.tied own) ∙ ap (λ endpoints. endpoints_left tickets endpoints own) r.kept in
    rw (same, key, ← c.self.view_is) (rw (c.end_ticket-claim.ensures.rows r.e r.there, r.row_is, left, c.end-standing.ensures.slots, interface-row rows own, ended) refl)

pub returns-clause-transfer : goal.returns-clause-transfer
returns-clause-transfer c = λ x there.
    let slots = c.self.inside.tickets.slots in
    let s = state_of c.end-standing.result in
    let at : slice_get slots c.args.ticket ≡ Some s = standing-slot slots c.args.ticket c.end-standing.result c.end-standing.ensures.standing in
    let same : x ≡ s = same_Some x s (sym there ∙ rw (← c.self.view_is) at) in
    c.into_parts-parts.ensures.transfer ∙ ap slot_data (sym same)

pub returns-clause-claim : goal.returns-clause-claim
returns-clause-claim c = λ x here.
    let rows = c.self.inside.owners.rows in
    let slots = c.self.inside.tickets.slots in
    let s = state_of c.end-standing.result in
    let at : slice_get slots c.args.ticket ≡ Some s = standing-slot slots c.args.ticket c.end-standing.result c.end-standing.ensures.standing in
    let key = c.into_parts-parts.ensures.key in
    let r = row rows slots c.args.ticket c.into_parts-parts.result.key c.args.end s c.self.invariant at key in
    let own = c.into_parts-parts.result.key in
    let interfaces = c.self.inside.owners.interfaces in
    let tickets = tickets_with slots c.args.ticket c.args.end in
    let ended : c.end_ticket-claim.result ≡ claim_of interfaces tickets (map (option_map endpoint_of) rows) own =
    c.end_ticket-claim.ensures.gone r.e r.there ∙ claim_is interfaces r in
    let same : x ≡ s = same_Some x s (sym here ∙ rw (← c.self.view_is) at) in
    rw (same, key, ← c.self.view_is) ended

pub end-standing-requires : goal.end-standing-requires
end-standing-requires c =
    record { there = keyed-standing c.self.inside.tickets.slots c.args.ticket (rw (← c.self.view_is) at c.requires.within) (rw (← c.self.view_is) at c.requires.key) }
