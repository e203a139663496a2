use Rattle.std.proofs.Common.{◌≡◌, arith, reverse, sym, ap, ◌∙◌}
use Rattle.std.specs.Prelude.{map, is_some, if◌then◌else◌}
use Rattle.std.specs.Int.{from_bool}
use Rattle.usb_kernel.specs.Steps.{after_discard}
use Rattle.usb_kernel.specs.Timers.{discarded_in_order}
use Rattle.usb_kernel.proofs.Deadlines.{keeps-discarded, turn-goes_on, turned-kept}
use Rattle.usb_kernel.proofs.Overdue.{up-overdue, up-first, from-bool}
use Rattle.usb_kernel.proofs.timer.discard_due.Goals as goal

pub due-preserved : goal.due-preserved
due-preserved g c =
    let past = reverse c.due.journal.items in
    let due = c.in-Some.ensures.due in
    let inv = c.due.invariant in
    let next : reverse c.drop_ticket.new.journal.items ≡ after_discard past c.in-Some.ticket = c.drop_ticket.ensures.journal in
    let freed : c.from-freed.result ≡ (if is_some c.drop_ticket.result then 1 else 0) = c.from-freed.ensures ∙ (ap from_bool c.is_some.ensures ∙ from-bool (is_some c.drop_ticket.result)) in
    record {
      agrees = c.drop_ticket.ensures.agrees;
      kept = rw next (keeps-discarded past due.0 c.in-Some.ticket c.due.deadlines.keys c.take_due.new.deadlines.keys due.1 inv.kept);
      goes = rw next (sym (turn-goes_on past c.args.clock due.0 c.in-Some.ticket c.due.deadlines.keys c.take_due.new.deadlines.keys due.1 due.2) ∙ inv.goes);
      lawful = λ before. c.drop_ticket.ensures.lawful (inv.lawful before);
      places = omega (arith, freed, c.drop_ticket.ensures.places, inv.places);
      len = omega (arith, freed, c.drop_ticket.ensures.len, inv.len);
      capacity = omega (arith, c.drop_ticket.ensures.capacity, inv.capacity);
      looks = omega (arith, inv.looks, c.drop_ticket.ensures.looks, up-first c.args.clock due.0 c.in-Some.ticket c.due.deadlines.keys c.take_due.new.deadlines.keys due.1 due.2);
    }

pub returns-clause-looks : goal.returns-clause-looks
returns-clause-looks g c = omega (arith, c.due.invariant.looks, up-overdue (reverse c.args.journal.now.items) c.args.clock c.args.deadlines.now.keys c.requires.kept)

pub returns-clause-journal : goal.returns-clause-journal
returns-clause-journal g c =
    ap (λ xs. discarded_in_order (reverse c.due.journal.items) (map (λ p. p.1) xs)) (sym c.in_default.ensures.none)
    ∙ (c.due.invariant.goes ∙ sym (turned-kept (reverse c.args.journal.now.items) c.args.clock c.args.deadlines.now.keys c.requires.kept))
