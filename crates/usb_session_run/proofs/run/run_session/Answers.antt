use Rattle.std.proofs.Common.{◌≡◌, ◌+◌}
use Rattle.std.proofs.lemmas.Result.{IfErr-weaker, IfOk-weaker}
use Rattle.usb_script.specs.declared.error.SessionError.TheVariants.{Memory}
use Rattle.usb_session_run.specs.Session.{streams, HasReason, IsAnswered}
use Rattle.usb_session_run.proofs.SessionLemmas.{memory_alone, answered-ends, session-read, exact_of, parsed_of, too_many_of}
use Rattle.usb_session_run.proofs.run.run_session.Goals as goal

pub returns-clause-complete : goal.returns-clause-complete
returns-clause-complete g c =
    let old = streams g.S.Source.left g.S.Source.faults g.K.Sink.written g.K.Sink.faults c.args.source.now c.args.sink.now in
    let new = streams g.S.Source.left g.S.Source.faults g.K.Sink.written g.K.Sink.faults c.answer_source.new.source c.answer_source.new.sink in
    λ smooth. IfErr-weaker c.answer_source.result (HasReason old new) (λ e. e ≡ Memory) (λ e reason. memory_alone old new e reason smooth) c.answer_source.ensures.err

pub returns-clause-ends : goal.returns-clause-ends
returns-clause-ends g c =
    let old = streams g.S.Source.left g.S.Source.faults g.K.Sink.written g.K.Sink.faults c.args.source.now c.args.sink.now in
    let new = streams g.S.Source.left g.S.Source.faults g.K.Sink.written g.K.Sink.faults c.answer_source.new.source c.answer_source.new.sink in
    IfOk-weaker c.answer_source.result (IsAnswered old new) (λ x. x.taken + x.dropped + x.reclaimed ≡ x.tickets) (answered-ends old new) c.answer_source.ensures.ok

pub returns-clause-exact : goal.returns-clause-exact
returns-clause-exact g c =
    let old = streams g.S.Source.left g.S.Source.faults g.K.Sink.written g.K.Sink.faults c.args.source.now c.args.sink.now in
    let new = streams g.S.Source.left g.S.Source.faults g.K.Sink.written g.K.Sink.faults c.answer_source.new.source c.answer_source.new.sink in
    λ bytes quiet. exact_of old new bytes c.answer_source.result (session-read old new c.answer_source.result c.answer_source.ensures.ok c.answer_source.ensures.err) quiet

pub returns-clause-parsed : goal.returns-clause-parsed
returns-clause-parsed g c =
    let old = streams g.S.Source.left g.S.Source.faults g.K.Sink.written g.K.Sink.faults c.args.source.now c.args.sink.now in
    let new = streams g.S.Source.left g.S.Source.faults g.K.Sink.written g.K.Sink.faults c.answer_source.new.source c.answer_source.new.sink in
    let run = c.answer_source in
    λ ended bytes known. parsed_of old new (g.S.Source.has_ended run.new.source) bytes run.result (session-read old new run.result run.ensures.ok run.ensures.err) run.ensures.ends ended known

pub returns-clause-too_many : goal.returns-clause-too_many
returns-clause-too_many g c =
    let old = streams g.S.Source.left g.S.Source.faults g.K.Sink.written g.K.Sink.faults c.args.source.now c.args.sink.now in
    let new = streams g.S.Source.left g.S.Source.faults g.K.Sink.written g.K.Sink.faults c.answer_source.new.source c.answer_source.new.sink in
    let run = c.answer_source in
    λ gave. too_many_of old new run.result (session-read old new run.result run.ensures.ok run.ensures.err) run.ensures.spares gave
