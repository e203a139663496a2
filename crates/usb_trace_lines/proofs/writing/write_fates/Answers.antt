use Rattle.std.proofs.Common.{◌+◌, ◌<◌, ◌++◌, ◌∙◌, length, drop, flat_map, ap, arith}
use Rattle.std.proofs.lemmas.Result.{err_from_is_err_and}
use Rattle.usb_kernel.specs.Tickets.{tickets}
use Rattle.usb_trace_lines.specs.Fates.{fates_of}
use Rattle.usb_trace_lines.specs.Texts.{fate_text}
use Rattle.usb_trace_lines.proofs.FatesTold.{fate-piece, fates-end}
use Rattle.usb_trace_lines.proofs.Going.{going-on, going-cut, going-all}
use Rattle.usb_trace_lines.proofs.writing.write_fates.Goals as goal

pub returns-in_err-write_fate-clause-err : goal.returns-in_err-write_fate-clause-err
returns-in_err-write_fate-clause-err g c =
    let p = err_from_is_err_and c.from_residual.result c.from_residual.ensures.1 in
    let past = c.args.kernel.now.past in
    let t = c.loop-ticket.ticket in
    let below : t < length (tickets past) = omega (arith, c.loop-ticket-test.true, c.tickets-ticket-end.ensures.tickets) in
    let piece = ap (λ f. fate_text f ++ flat_map fate_text (drop (t + 1) (fates_of past))) c.of.ensures.told ∙ fate-piece past t c.ticket.result below c.ticket.ensures.info in
    rw p.1 (going-cut (g.K.Lines.state c.write_fate.new.out) (fate_text c.of.result) (flat_map fate_text (drop (t + 1) (fates_of past))) c.loop-ticket.invariant c.in_err-write_fate.ensures.err piece)

pub loop-ticket-preserved : goal.loop-ticket-preserved
loop-ticket-preserved g c =
    let past = c.args.kernel.now.past in
    let t = c.loop-ticket.ticket in
    let below : t < length (tickets past) = omega (arith, c.loop-ticket-test.true, c.tickets-ticket-end.ensures.tickets) in
    let piece = ap (λ f. fate_text f ++ flat_map fate_text (drop (t + 1) (fates_of past))) c.of.ensures.told ∙ fate-piece past t c.ticket.result below c.ticket.ensures.info in
    going-on (g.K.Lines.state c.write_fate.new.out) (fate_text c.of.result) (flat_map fate_text (drop (t + 1) (fates_of past))) c.loop-ticket.invariant c.in_ok-write_fate.ensures.ok piece

pub returns-clause-ok : goal.returns-clause-ok
returns-clause-ok g c =
    going-all c.loop-ticket.invariant (fates-end c.args.kernel.now.past c.loop-ticket.ticket (omega (arith, c.loop-ticket-test.false, c.tickets-ticket-end.ensures.tickets)))
