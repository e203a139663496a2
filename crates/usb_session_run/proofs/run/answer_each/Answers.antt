use Rattle.std.proofs.Common.{◌≡◌, ◌∙◌, length, arith, refl, ap, rules}
use Rattle.std.specs.Vec.Iter.{into_iter_items, into_iter_len}
use Rattle.std.proofs.lemmas.List.Sums.{sum_by-cons}
use Rattle.std.proofs.lemmas.Result.{err_from_is_err_and}
use Rattle.usb_script_lines.specs.ItemKinds.{places_in}
use Rattle.usb_session_run.proofs.RunLemmas.{running-start, running-on, running-cut, calls-yes, calls-no}
use Rattle.usb_session_run.proofs.StopLemmas.{going-start, going-on, stopped-writing, stopped-memory}
use Rattle.usb_session_run.proofs.run.answer_each.Goals as goal
use Rattle.usb_session_run.proofs.run.answer_each.Goals.{then-is_call, else-is_call}

pub loop-item-init : goal.loop-item-init
loop-item-init g c =
    let all = c.into_iter-item-iterator.ensures.into_iter_gives in
    let left : into_iter_len c.into_iter-item-iterator.result ≡ length (into_iter_items c.into_iter-item-iterator.result) = search rules in
    record {
      running = rw all.0 (running-start (g.K.Sink.written c.args.sink.now) c.args.session.now c.args.items.items c.requires.stands);
      going = rw all.0 (going-start (g.K.Sink.written c.args.sink.now) c.args.session.now c.args.items.items c.requires.stands);
      later = omega arith;
      quiet = refl;
      room = rw all.0 c.requires.room;
      calls = rw all.0 (omega arith);
      few = omega (arith, left, ap length all.0, c.requires.bounded.few);
      left = left;
    }

pub returns-in_err-write_piece-clause-err : goal.returns-in_err-write_piece-clause-err
returns-in_err-write_piece-clause-err g c =
    let p = err_from_is_err_and c.from_residual-in_err-write_piece.result c.from_residual-in_err-write_piece.ensures.1 in
    rw p.1
    (running-cut (g.K.Sink.written c.write_piece.new.sink) c.loop-item.session c.answer.new.self c.in-Some.item (into_iter_items c.next.new.self) c.as_bytes.result.now
    (rw c.in-Some.ensures.steps.0 at c.loop-item.invariant.running) (rw c.as_bytes.ensures.value (rw c.clear.ensures.bytes at c.in_ok-answer.ensures.answered)) c.in_err-write_piece.ensures.err)

pub returns-in_err-write_piece-clause-stopped : goal.returns-in_err-write_piece-clause-stopped
returns-in_err-write_piece-clause-stopped g c =
    let p = err_from_is_err_and c.from_residual-in_err-write_piece.result c.from_residual-in_err-write_piece.ensures.1 in
    rw p.1
    (stopped-writing c.loop-item.session c.answer.new.self c.in-Some.item (into_iter_items c.next.new.self) c.as_bytes.result.now
    (rw c.in-Some.ensures.steps.0 at c.loop-item.invariant.going) (rw c.as_bytes.ensures.value (rw c.clear.ensures.bytes at c.in_ok-answer.ensures.answered)) (g.K.Sink.written c.write_piece.new.sink) c.in_err-write_piece.ensures.err)

pub returns-in_err-answer-clause-stopped : goal.returns-in_err-answer-clause-stopped
returns-in_err-answer-clause-stopped g c =
    let p = err_from_is_err_and c.from_residual.result c.from_residual.ensures.1 in
    rw p.1 (stopped-memory c.loop-item.session c.answer.new.self.host.kernel.past c.loop-item.invariant.going c.in_err-answer.ensures.later)

pub loop-item-preserved : goal.loop-item-preserved
loop-item-preserved g c =
    let item = c.in-Some.item in
    let rest = into_iter_items c.next.new.self in
    let steps = c.in-Some.ensures.steps.0 in
    let gone = c.in-Some.ensures.steps.1 in
    let fewer = ap length steps in
    let was = c.loop-item.invariant.left in
    let here = c.loop-item.invariant.few in
    let counted = rw steps at c.loop-item.invariant.calls in record {
      running =
          running-on (g.K.Sink.written c.write_piece.new.sink) c.loop-item.session c.answer.new.self item rest c.as_bytes.result.now
          (rw steps at c.loop-item.invariant.running) (rw c.as_bytes.ensures.value (rw c.clear.ensures.bytes at c.in_ok-answer.ensures.answered)) c.in_ok-write_piece.ensures.ok;
      going =
          going-on c.loop-item.session c.answer.new.self item rest c.as_bytes.result.now
          (rw steps at c.loop-item.invariant.going) (rw c.as_bytes.ensures.value (rw c.clear.ensures.bytes at c.in_ok-answer.ensures.answered)) (g.K.Sink.written c.write_piece.new.sink) c.in_ok-write_piece.ensures.ok;
      later = omega (arith, c.in_ok-write_piece.ensures.later);
      quiet = c.in_ok-write_piece.ensures.quiet ∙ c.loop-item.invariant.quiet;
      room = omega (arith, c.in_ok-answer.ensures.spare, rw steps at c.loop-item.invariant.room, sum_by-cons places_in item rest);
      calls = elim c.if-is_call.branch [
        | then-is_call w ↦ omega (arith, counted, calls-yes item rest c.is_call.result c.is_call.ensures.value w.if-is_call.true)
        | else-is_call w ↦ omega (arith, counted, calls-no item rest c.is_call.result c.is_call.ensures.value w.if-is_call.false)
      ];
      few = elim c.if-is_call.branch [ then-is_call w ↦ omega arith | else-is_call w ↦ omega arith ];
      left = omega arith;
    }
