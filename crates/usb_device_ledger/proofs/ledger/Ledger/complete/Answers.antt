use Rattle.std.proofs.Common.{◌≡◌, true, None, Some, slice_get, ap, sym, refl, ◌∙◌}
use Rattle.std.specs.Prelude.{option_and_then}
use Rattle.std.proofs.lemmas.Option.{same_Some}
use Rattle.usb_device_ledger.specs.TicketStates.{state_of, standing_of}
use Rattle.usb_device_ledger.specs.LedgerState.{host_ticket, is_given_up}
use Rattle.usb_device_ledger.proofs.LedgerLemmas.{given-with, kept-ticket, tickets-same}
use Rattle.usb_device_ledger.proofs.StandingLemmas.{standing-slot, given-key, ended-with, ended-key, set-same}
use Rattle.usb_device_ledger.proofs.ledger.Ledger.complete.Goals as goal

pub invariant_of-self : goal.invariant_of-self
invariant_of-self c =
    let slots = c.self.inside.tickets.slots in
    let s = state_of c.in_ok-standing.standing.now in
    let at : slice_get slots c.args.done.ticket ≡ Some s = standing-slot slots c.args.done.ticket c.in_ok-standing.standing.now (sym c.in_ok-standing.ensures.standing) in
    let next = state_of c.in-Some.complete in
    rw (c.replace.ensures.slots, tickets-same slots c.args.done.ticket s next at (ap host_ticket c.in-Some.ensures.kept ∙ kept-ticket c.args.done s)) c.self.invariant

pub returns-in-None-clause-slots : goal.returns-in-None-clause-slots
returns-in-None-clause-slots c = λ x there.
    let slots = c.self.inside.tickets.slots in
    let s = state_of c.in_ok-standing.standing.now in
    let at : slice_get slots c.args.done.ticket ≡ Some s = standing-slot slots c.args.done.ticket c.in_ok-standing.standing.now (sym c.in_ok-standing.ensures.standing) in
    let here : slice_get c.args.self.now.slots c.args.done.ticket ≡ Some s = rw (← c.self.view_is) at in
    let same : x ≡ s = same_Some x s (sym there ∙ here) in
    let given : is_given_up s ≡ true = c.in-None.ensures.given_up in
    c.end.ensures.slots s here ∙ rw (same, given-key s given, given-with c.args.done s given) refl

pub returns-in-None-clause-claim : goal.returns-in-None-clause-claim
returns-in-None-clause-claim c = λ x there.
    let slots = c.self.inside.tickets.slots in
    let s = state_of c.in_ok-standing.standing.now in
    let at : slice_get slots c.args.done.ticket ≡ Some s = standing-slot slots c.args.done.ticket c.in_ok-standing.standing.now (sym c.in_ok-standing.ensures.standing) in
    let here : slice_get c.args.self.now.slots c.args.done.ticket ≡ Some s = rw (← c.self.view_is) at in
    let same : x ≡ s = same_Some x s (sym there ∙ here) in
    let given : is_given_up s ≡ true = c.in-None.ensures.given_up in
    c.end.ensures.claim s here ∙ rw (same, given-key s given, given-with c.args.done s given) refl

pub returns-in_err-standing-clause-slots : goal.returns-in_err-standing-clause-slots
returns-in_err-standing-clause-slots c = λ x there.
    let now = c.args.self.now in
    let at : slice_get c.self.inside.tickets.slots c.args.done.ticket ≡ Some x = rw (← c.self.view_is) at there in
    let none : standing_of x ≡ None = sym (ap (option_and_then standing_of) at) ∙ sym c.in_err-standing.ensures.standing in
    rw (ended-key x none, ended-with c.args.done x none, set-same now.slots c.args.done.ticket x there) refl
