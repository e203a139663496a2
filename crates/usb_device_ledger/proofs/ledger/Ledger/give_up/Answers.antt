use Rattle.std.proofs.Common.{◌≡◌, map, Some, slice_get, sym, refl, ◌∙◌}
use Rattle.std.proofs.lemmas.List.{map-set}
use Rattle.std.proofs.lemmas.Option.{same_Some}
use Rattle.usb_device_ledger.specs.Entries.{Abandoned}
use Rattle.usb_device_ledger.specs.TicketStates.{state_of, standing_at}
use Rattle.usb_device_ledger.specs.TicketStates as slot
use Rattle.usb_device_ledger.specs.LedgerState.{host_ticket}
use Rattle.usb_device_ledger.proofs.LedgerLemmas.{Tied-kept, ticket-at}
use Rattle.usb_device_ledger.proofs.StandingLemmas.{standing-slot, keyed-standing, without-key, not-none}
use Rattle.usb_device_ledger.proofs.ledger.Ledger.give_up.Goals as goal

pub invariant_of-self : goal.invariant_of-self
invariant_of-self c =
    let slots = c.self.inside.tickets.slots in
    let standing = c.in-Some.standing.now in
    let key = c.key-key.result in
    let at : slice_get slots c.args.ticket ≡ Some (state_of standing) = standing-slot slots c.args.ticket standing (sym c.in-Some.ensures.standing) in
    rw (c.replace.ensures.slots, map-set host_ticket slots c.args.ticket (slot.Abandoned key)) (Tied-kept c.self.inside.owners.rows (map host_ticket slots) c.args.ticket key (host_ticket (state_of standing)) (Abandoned key) c.self.invariant (ticket-at slots c.args.ticket (state_of standing) at) c.key-key.ensures.key refl)

pub returns-in-Some : goal.returns-in-Some
returns-in-Some c = record {
  slots = λ x there.
      let slots = c.self.inside.tickets.slots in
      let standing = c.in-Some.standing.now in
      let at : slice_get slots c.args.ticket ≡ Some (state_of standing) = standing-slot slots c.args.ticket standing (sym c.in-Some.ensures.standing) in
      let same : x ≡ state_of standing = same_Some x (state_of standing) (sym there ∙ rw (← c.self.view_is) at) in
      rw (← c.self.view_is, c.replace.ensures.slots, same, without-key standing c.key-key.result c.key-key.ensures.key) refl;
}

pub returns-in_default : goal.returns-in_default
returns-in_default c =
    absurd (not-none (standing_at c.self.inside.tickets.slots c.args.ticket) (keyed-standing c.self.inside.tickets.slots c.args.ticket (rw (← c.self.view_is) at c.requires.within) (rw (← c.self.view_is) at c.requires.key)) (sym c.in_default.ensures.standing))
