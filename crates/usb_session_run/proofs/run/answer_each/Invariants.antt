use Rattle.std.proofs.Common.{◌≡◌, ◌≤◌, ◌+◌, length, count_by}
use Rattle.std.specs.Vec.Iter.{into_iter_items, into_iter_len}
use Rattle.usb_script_lines.specs.ItemKinds.{is_call, place_count}
use Rattle.usb_session.specs.Output.{output, final_host}
use Rattle.usb_session_run.proofs.RunLemmas.{Running}
use Rattle.usb_session_run.proofs.StopLemmas.{Going}
use Rattle.usb_session_run.proofs.run.answer_each.Given as goal

abbrev pub invariant-loop-item : goal.invariant-loop-item
invariant-loop-item g l = record {
  running : Running (g.K.Sink.written l.initial.sink) (g.K.Sink.written l.sink) l.session (into_iter_items l.item-iterator) (output l.fn.items.items) (final_host l.fn.items.items);
  going : Going (g.K.Sink.written l.initial.sink) (g.K.Sink.written l.sink) l.session l.fn.items.items (into_iter_items l.item-iterator);
  later : g.K.Sink.faults l.initial.sink ≤ g.K.Sink.faults l.sink;
  quiet : g.K.Sink.faults l.sink ≡ g.K.Sink.faults l.initial.sink;
  room : place_count (into_iter_items l.item-iterator) ≤ l.session.host.kernel.spare;
  calls : l.calls + count_by is_call (into_iter_items l.item-iterator) ≡ count_by is_call l.fn.items.items;
  few : l.calls + into_iter_len l.item-iterator ≤ 1048576;
  left : into_iter_len l.item-iterator ≡ length (into_iter_items l.item-iterator);
}
