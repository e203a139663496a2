use Rattle.usb_session_run.specs.Session.{streams}
use Rattle.usb_session_run.proofs.SessionLemmas.{trace-read, exact_of, parsed_of, too_many_of, exact_status, ended_status, goes_on_status, parsed_status, too_many_status}
use Rattle.usb_session_run.proofs.program.answer_trace.Goals as goal

pub returns-clause-exact : goal.returns-clause-exact
returns-clause-exact g c =
    let run = c.trace-answer in
    let old = streams g.S.Source.left g.S.Source.faults g.K.Sink.written g.K.Sink.faults c.args.source.now c.args.sink.now in
    let new = streams g.S.Source.left g.S.Source.faults g.K.Sink.written g.K.Sink.faults run.new.source run.new.sink in
    λ bytes quiet. rw c.status_of.ensures.status (exact_status bytes run.result (exact_of old new bytes run.result (trace-read old new run.result run.ensures.ok run.ensures.err) quiet))

pub returns-clause-ended : goal.returns-clause-ended
returns-clause-ended g c =
    let run = c.trace-answer in
    rw c.status_of.ensures.status (λ which. ended_status (g.S.Source.has_ended run.new.source) run.result run.ensures.ends which)

pub returns-clause-goes_on : goal.returns-clause-goes_on
returns-clause-goes_on g c =
    let run = c.trace-answer in
    rw c.status_of.ensures.status (λ which. goes_on_status (g.S.Source.has_ended run.new.source) run.result run.ensures.ends which)

pub returns-clause-parsed : goal.returns-clause-parsed
returns-clause-parsed g c =
    let run = c.trace-answer in
    let old = streams g.S.Source.left g.S.Source.faults g.K.Sink.written g.K.Sink.faults c.args.source.now c.args.sink.now in
    let new = streams g.S.Source.left g.S.Source.faults g.K.Sink.written g.K.Sink.faults run.new.source run.new.sink in
    λ ended bytes known. rw c.status_of.ensures.status
    (parsed_status bytes run.result (parsed_of old new (g.S.Source.has_ended run.new.source) bytes run.result (trace-read old new run.result run.ensures.ok run.ensures.err) run.ensures.ends ended known))

pub returns-clause-too_many : goal.returns-clause-too_many
returns-clause-too_many g c =
    let run = c.trace-answer in
    let old = streams g.S.Source.left g.S.Source.faults g.K.Sink.written g.K.Sink.faults c.args.source.now c.args.sink.now in
    let new = streams g.S.Source.left g.S.Source.faults g.K.Sink.written g.K.Sink.faults run.new.source run.new.sink in
    λ gave. rw c.status_of.ensures.status (too_many_status run.result (too_many_of old new run.result (trace-read old new run.result run.ensures.ok run.ensures.err) run.ensures.spares gave))
