use Rattle.std.proofs.Common.{◌<◌, length, Ok, arith}
use Rattle.std.proofs.lemmas.Result.{err_from_is_err_and, on_ok_weaker}
use Rattle.usb_session_run.specs.Session.{streams, ReadAs}
use Rattle.usb_session_run.proofs.SessionLemmas.{parsing_ends, Keeps_self}
use Rattle.usb_session_run.proofs.TraceLemmas.{parsing_untraced, traced, writing_untraced, script_is_sized, script_is_directed, wrote_trace}
use Rattle.usb_session_run.proofs.tracing.trace.Goals as goal

pub returns-in_err-script-clause-err : goal.returns-in_err-script-clause-err
returns-in_err-script-clause-err g c =
    let old = streams g.S.Source.left g.S.Source.faults g.K.Sink.written g.K.Sink.faults c.args.source.now c.args.sink.now in
    let new = streams g.S.Source.left g.S.Source.faults g.K.Sink.written g.K.Sink.faults c.read_whole.new.source c.args.sink.now in
    let p = err_from_is_err_and c.from_residual-in_err-script.result c.from_residual-in_err-script.ensures.1 in
    let bytes = c.in_ok-bytes.bytes.items in
    let few : length bytes < 1048577 = omega (arith, c.in_ok-bytes.bytes.ok.0, c.in_ok-bytes.ensures.few) in
    rw (p.1, p.2) (parsing_untraced old new c.in_err-script.field-0.0 bytes c.in_ok-bytes.ensures.ok few (rw c.as_slice.ensures.value at c.in_err-script.ensures.answer) (Keeps_self (g.K.Sink.written c.args.sink.now)))

pub returns-in_err-script-clause-ends : goal.returns-in_err-script-clause-ends
returns-in_err-script-clause-ends g c =
    let p = err_from_is_err_and c.from_residual-in_err-script.result c.from_residual-in_err-script.ensures.1 in
    let bytes = c.in_ok-bytes.bytes.items in
    let few : length bytes < 1048577 = omega (arith, c.in_ok-bytes.bytes.ok.0, c.in_ok-bytes.ensures.few) in
    rw (p.1, p.2) (parsing_ends (Unit {0}) (g.S.Source.has_ended c.read_whole.new.source) bytes c.in_err-script.field-0.0 c.in_ok-bytes.ensures.ends few (rw c.as_slice.ensures.value at c.in_err-script.ensures.answer))

pub write_journal-requires : goal.write_journal-requires
write_journal-requires g c = record {
  sized = script_is_sized c.in_ok-bytes.bytes.items c.in_ok-script.script c.in_ok-kernel.kernel (rw c.as_slice.ensures.value at c.in_ok-script.ensures.answer) c.in_ok-kernel.ensures.kernel c.in_ok-kernel.ensures.lawful;
}

pub returns-clause-ok : goal.returns-clause-ok
returns-clause-ok g c =
    let write = c.write_journal in
    let old = streams g.S.Source.left g.S.Source.faults g.K.Sink.written g.K.Sink.faults c.args.source.now c.args.sink.now in
    let new = streams g.S.Source.left g.S.Source.faults g.K.Sink.written g.K.Sink.faults c.read_whole.new.source write.new.sink in
    let read : ReadAs old new (Ok c.in_ok-script.script) =
    record { bytes = c.in_ok-bytes.bytes.items; read = c.in_ok-bytes.ensures.ok; parsed = rw c.as_slice.ensures.value at c.in_ok-script.ensures.answer } in
    on_ok_weaker write.result (traced old new c.in_ok-script.script c.in_ok-kernel.kernel read c.in_ok-kernel.ensures.kernel) write.ensures.ok

pub returns-clause-err : goal.returns-clause-err
returns-clause-err g c =
    let write = c.write_journal in
    let old = streams g.S.Source.left g.S.Source.faults g.K.Sink.written g.K.Sink.faults c.args.source.now c.args.sink.now in
    let new = streams g.S.Source.left g.S.Source.faults g.K.Sink.written g.K.Sink.faults c.read_whole.new.source write.new.sink in
    let read : ReadAs old new (Ok c.in_ok-script.script) =
    record { bytes = c.in_ok-bytes.bytes.items; read = c.in_ok-bytes.ensures.ok; parsed = rw c.as_slice.ensures.value at c.in_ok-script.ensures.answer } in
    writing_untraced old new c.in_ok-script.script c.in_ok-kernel.kernel read c.in_ok-kernel.ensures.kernel (g.K.Sink.has_failed write.new.sink) write.result write.ensures.part write.ensures.stops
    (λ is. rw (write.ensures.memory is) (Keeps_self (g.K.Sink.written c.args.sink.now))) write.ensures.only

pub returns-clause-right : goal.returns-clause-right
returns-clause-right g c =
    let write = c.write_journal in
    let directed = script_is_directed c.in_ok-bytes.bytes.items c.in_ok-script.script c.in_ok-kernel.kernel (rw c.as_slice.ensures.value at c.in_ok-script.ensures.answer) c.in_ok-kernel.ensures.kernel in
    wrote_trace (g.K.Sink.written c.args.sink.now) (g.K.Sink.written write.new.sink) c.in_ok-kernel.kernel.past write.result directed write.ensures.ok write.ensures.right
