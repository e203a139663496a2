use Rattle.std.proofs.Common.{◌<◌, length, arith}
use Rattle.usb_session.proofs.SumLemmas.{count-yes, count-no}
use Rattle.usb_session.proofs.summary.count_of.Goals as goal
use Rattle.usb_session.proofs.summary.count_of.Goals.{then-has_end, else-has_end}

pub loop-ticket-preserved : goal.loop-ticket-preserved
loop-ticket-preserved c =
    let ts = c.args.host.now.tickets in
    let t = c.loop-ticket.ticket in
    let below : t < length ts = omega (arith, c.loop-ticket-test.true, c.tickets-ticket-end.ensures.count) in
    record {
      counted = elim c.if-has_end.branch [
        | then-has_end w ↦ omega (arith, w.count-is, c.loop-ticket.invariant.counted, count-yes ts t c.args.end c.has_end.result below c.has_end.ensures.has w.if-has_end.true)
        | else-has_end w ↦ omega (arith, w.count-is, c.loop-ticket.invariant.counted, count-no ts t c.args.end c.has_end.result below c.has_end.ensures.has w.if-has_end.false)
      ];
      few = elim c.if-has_end.branch [ then-has_end w ↦ omega (arith, w.count-is, c.loop-ticket.invariant.few) | else-has_end w ↦ omega (arith, w.count-is, c.loop-ticket.invariant.few) ];
    }
