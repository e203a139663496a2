use Rattle.std.proofs.Common.{◌≡◌, false, ap, sym, refl, ◌∙◌}
use Rattle.std.specs.Prelude.{is_some}
use Rattle.usb_kernel.specs.Completions.{completion}
use Rattle.usb_device_ledger.specs.TicketStates as slot
use Rattle.usb_device_host.specs.HostState.{HostState}
use Rattle.usb_device_ledger.specs.LedgerState.{LedgerState}
use Rattle.usb_device_host.specs.TicketEnds.{host_abandoned}
use Rattle.usb_device_host.proofs.HostCallLemmas.{HeldSlot, held-slot, held-within, abandoned-slot, TicketsAgree-abandon, none-not, dropped}
use Rattle.std.proofs.lemmas.Option.{same_Some}
use Rattle.usb_device_host.proofs.host.Host.abandon_ticket.Goals as goal

pub returns-then-has_come : goal.returns-then-has_come
returns-then-has_come c =
    record { abandoned = c.end_ticket.ensures.ended ∙ sym (dropped c.args.self.now c.args.ticket (sym c.has_come.ensures.reaped ∙ c.if-has_come.true)) }

pub give_up-requires-clause-within : goal.give_up-requires-clause-within
give_up-requires-clause-within c = held-within c.self.inside.ledger.slots c.args.ticket (rw (← c.self.view_is) at c.requires.held)

pub give_up-requires-clause-key : goal.give_up-requires-clause-key
give_up-requires-clause-key c = λ x there.
    let k = c.self.inside.kernel in
    let l = c.self.inside.ledger in
    let w : HeldSlot l.slots c.args.ticket = held-slot l.slots c.args.ticket (rw (← c.self.view_is) at c.requires.held) in
    rw (same_Some _ _ (sym there ∙ w.at)) refl

pub invariant_of-self : goal.invariant_of-self
invariant_of-self c =
    let k = c.self.inside.kernel in
    let l = c.self.inside.ledger in
    let w : HeldSlot l.slots c.args.ticket = held-slot l.slots c.args.ticket (rw (← c.self.view_is) at c.requires.held) in
    let open_ : is_some (completion k.past c.args.ticket) ≡ false = ap (λ (h : HostState). is_some (completion h.kernel.past c.args.ticket)) c.self.view_is ∙ (sym c.has_come.ensures.reaped ∙ c.if-has_come.false) in
    let slots = ap (λ (x : LedgerState). x.slots) (c.give_up.ensures.slots (slot.HeldBy w.key w.transfer) w.at) in
    record {
      agree = rw slots (TicketsAgree-abandon k.past l.slots c.args.ticket w.key c.self.invariant.agree (none-not (completion k.past c.args.ticket) open_));
      room = c.self.invariant.room;
      errnos = c.self.invariant.errnos;
    }

pub returns : goal.returns
returns c =
    let k = c.self.inside.kernel in
    let l = c.self.inside.ledger in
    let w : HeldSlot l.slots c.args.ticket = held-slot l.slots c.args.ticket (rw (← c.self.view_is) at c.requires.held) in
    let open_ : is_some (completion k.past c.args.ticket) ≡ false = ap (λ (h : HostState). is_some (completion h.kernel.past c.args.ticket)) c.self.view_is ∙ (sym c.has_come.ensures.reaped ∙ c.if-has_come.false) in
    record { abandoned = abandoned-slot k c.self.inside.devices l c.self.inside.steps.items c.args.ticket w c.give_up.new.self open_ (c.give_up.ensures.slots (slot.HeldBy w.key w.transfer) w.at) ∙ ap (λ h. host_abandoned h c.args.ticket) c.self.view_is }
