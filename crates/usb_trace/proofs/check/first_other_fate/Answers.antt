use Rattle.std.proofs.Common.{◌≡◌, ◌<◌, length, true, false, arith, rules}
use Rattle.std.proofs.lemmas.Option.{slice_get_within}
use Rattle.usb_kernel.specs.Tickets.{tickets}
use Rattle.usb_trace_lines.specs.Fates.{fates_of}
use Rattle.usb_trace.proofs.FirstOther.{take-more, fate-here, other-at, one-too-many, all-same}
use Rattle.usb_trace.proofs.check.first_other_fate.Goals as goal

pub returns-then-not-is_at-clause-some : goal.returns-then-not-is_at-clause-some
returns-then-not-is_at-clause-some c =
    let past = c.args.kernel.now.past in
    let t = c.loop-ticket.ticket in
    let below : t < length (tickets past) = omega (arith, c.loop-ticket-test.true, c.tickets-tickets.ensures.tickets) in
    let no_match : c.is_at.result ≡ false = search rules in
    other-at past c.args.fates.now t c.ticket.result c.of-fate.result c.loop-ticket.invariant.within below c.loop-ticket.invariant.same c.ticket.ensures.info c.of-fate.ensures.told (c.is_at.ensures.other no_match)

pub loop-ticket-preserved : goal.loop-ticket-preserved
loop-ticket-preserved c =
    let past = c.args.kernel.now.past in
    let t = c.loop-ticket.ticket in
    let match : c.is_at.result ≡ true = search rules in
    let here = c.is_at.ensures.at match in
    let within = slice_get_within c.args.fates.now t c.of-fate.result here in
    record {
      within = omega arith;
      same = take-more c.args.fates.now (fates_of past) t c.of-fate.result c.loop-ticket.invariant.same here (fate-here past t c.ticket.result c.of-fate.result c.ticket.ensures.info c.of-fate.ensures.told);
    }

pub returns-then-fates-tickets-clause-some : goal.returns-then-fates-tickets-clause-some
returns-then-fates-tickets-clause-some c =
    let is : c.loop-ticket.ticket ≡ c.tickets-tickets.result = omega (arith, c.loop-ticket-test.false) in
    one-too-many c.args.kernel.now.past c.args.fates.now c.tickets-tickets.result c.tickets-tickets.ensures.tickets (omega (arith, c.if-fates-tickets.true)) (rw is at c.loop-ticket.invariant.same)

pub returns-clause-none : goal.returns-clause-none
returns-clause-none c = λ none.
    let is : c.loop-ticket.ticket ≡ c.tickets-tickets.result = omega (arith, c.loop-ticket-test.false) in
    all-same c.args.kernel.now.past c.args.fates.now c.tickets-tickets.result c.tickets-tickets.ensures.tickets (omega (arith, c.if-fates-tickets.false)) (rw is at c.loop-ticket.invariant.same)
