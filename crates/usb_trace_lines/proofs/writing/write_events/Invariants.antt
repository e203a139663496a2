use Rattle.std.proofs.Common.{drop, take, flat_map}
use Rattle.std.specs.List.{All}
use Rattle.usb_trace_lines.specs.Texts.{event_text}
use Rattle.usb_trace_lines.specs.Types.{IsTyped}
use Rattle.usb_trace_lines.proofs.Going.{Going}
use Rattle.usb_trace_lines.proofs.writing.write_events.Given as goal

abbrev pub invariant-loop-event : goal.invariant-loop-event
invariant-loop-event g l = record {
  going : Going (g.K.Lines.state l.initial.out) (g.K.Lines.state l.out) (flat_map event_text l.events) (flat_map event_text (drop l.event-index l.events));
  typed : All IsTyped (take l.event-index l.events);
}
