use Rattle.std.proofs.Common.{◌<◌, length, arith}
use Rattle.std.proofs.lemmas.Result.{err_from_is_err_and}
use Rattle.usb_session.specs.declared.summary.Summary.{Summary}
use Rattle.usb_session_run.specs.Session.{streams}
use Rattle.usb_session_run.proofs.SessionLemmas.{parsing_reason, parsing_ends, Keeps_self}
use Rattle.usb_session_run.proofs.run.answer_source.Goals as goal

pub returns-in_err-script-clause-err : goal.returns-in_err-script-clause-err
returns-in_err-script-clause-err g c =
    let old = streams g.S.Source.left g.S.Source.faults g.K.Sink.written g.K.Sink.faults c.args.source.now c.args.sink.now in
    let new = streams g.S.Source.left g.S.Source.faults g.K.Sink.written g.K.Sink.faults c.read_whole.new.source c.args.sink.now in
    let p = err_from_is_err_and c.from_residual-in_err-script.result c.from_residual-in_err-script.ensures.1 in
    let bytes = c.in_ok-bytes.bytes.items in
    let few : length bytes < 1048577 = omega (arith, c.in_ok-bytes.bytes.ok.0, c.in_ok-bytes.ensures.few) in
    rw (p.1, p.2) (parsing_reason old new c.in_err-script.field-0.0 bytes c.in_ok-bytes.ensures.ok few (rw c.as_slice.ensures.value at c.in_err-script.ensures.answer) (Keeps_self (g.K.Sink.written c.args.sink.now)))

pub returns-in_err-script-clause-ends : goal.returns-in_err-script-clause-ends
returns-in_err-script-clause-ends g c =
    let p = err_from_is_err_and c.from_residual-in_err-script.result c.from_residual-in_err-script.ensures.1 in
    let bytes = c.in_ok-bytes.bytes.items in
    let few : length bytes < 1048577 = omega (arith, c.in_ok-bytes.bytes.ok.0, c.in_ok-bytes.ensures.few) in
    rw (p.1, p.2) (parsing_ends Summary (g.S.Source.has_ended c.read_whole.new.source) bytes c.in_err-script.field-0.0 c.in_ok-bytes.ensures.ends few (rw c.as_slice.ensures.value at c.in_err-script.ensures.answer))
