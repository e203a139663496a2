use Rattle.std.proofs.Common.{◌+◌, drop, flat_map}
use Rattle.std.proofs.lemmas.Result.{err_from_is_err_and}
use Rattle.usb_trace_lines.specs.Texts.{event_text}
use Rattle.usb_trace_lines.specs.Types.{IsTyped}
use Rattle.usb_trace_lines.proofs.Each.{first-more, first-all}
use Rattle.usb_trace_lines.proofs.Going.{going-on, going-cut, piece-left}
use Rattle.usb_trace_lines.proofs.writing.write_events.Goals as goal

pub returns-in_err-write_event-clause-err : goal.returns-in_err-write_event-clause-err
returns-in_err-write_event-clause-err g c =
    let p = err_from_is_err_and c.from_residual.result c.from_residual.ensures.1 in
    rw p.1
    (going-cut (g.K.Lines.state c.write_event.new.out) (event_text c.event-item.result) (flat_map event_text (drop (c.loop-event.event-index + 1) c.args.events.now)) c.loop-event.invariant.going c.in_err-write_event.ensures.err
    (piece-left event_text c.args.events.now c.loop-event.event-index c.event-item.result c.loop-event-test.true c.event-item.is))

pub loop-event-preserved : goal.loop-event-preserved
loop-event-preserved g c = record {
  going = going-on (g.K.Lines.state c.write_event.new.out) (event_text c.event-item.result) (flat_map event_text (drop (c.loop-event.event-index + 1) c.args.events.now)) c.loop-event.invariant.going c.in_ok-write_event.ensures.ok
      (piece-left event_text c.args.events.now c.loop-event.event-index c.event-item.result c.loop-event-test.true c.event-item.is);
  typed = first-more IsTyped c.args.events.now c.loop-event.event-index c.event-item.result c.loop-event-test.true c.event-item.is c.loop-event.invariant.typed c.event_is_typed.ensures.typed;
}

pub returns-clause-typed : goal.returns-clause-typed
returns-clause-typed g c = first-all IsTyped c.args.events.now c.loop-event.event-index c.loop-event-test.false c.loop-event.invariant.typed
