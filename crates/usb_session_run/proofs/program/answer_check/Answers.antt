use Rattle.usb_session_run.specs.Session.{streams}
use Rattle.usb_session_run.proofs.CheckLemmas.{text_of, yes_of, form_of, too_many_of}
use Rattle.usb_session_run.proofs.SessionLemmas.{ended_status, goes_on_status}
use Rattle.usb_session_run.proofs.program.answer_check.Goals as goal

pub returns-clause-exact : goal.returns-clause-exact
returns-clause-exact g c =
    let old = streams g.S.Source.left g.S.Source.faults g.K.Sink.written g.K.Sink.faults c.args.source.now c.args.sink.now in
    let new = streams g.S.Source.left g.S.Source.faults g.K.Sink.written g.K.Sink.faults c.check-answer.new.source c.check-answer.new.sink in
    λ text quiet. rw c.status_of.ensures.status (text_of old new text c.check-answer.result c.check-answer.ensures.ok c.check-answer.ensures.err quiet)

pub returns-clause-yes : goal.returns-clause-yes
returns-clause-yes g c =
    let old = streams g.S.Source.left g.S.Source.faults g.K.Sink.written g.K.Sink.faults c.args.source.now c.args.sink.now in
    let new = streams g.S.Source.left g.S.Source.faults g.K.Sink.written g.K.Sink.faults c.check-answer.new.source c.check-answer.new.sink in
    λ text quiet few trace. rw c.status_of.ensures.status (yes_of old new text c.check-answer.result c.check-answer.ensures.ok c.check-answer.ensures.err quiet few trace)

pub returns-clause-ended : goal.returns-clause-ended
returns-clause-ended g c =
    rw c.status_of.ensures.status (λ which. ended_status (g.S.Source.has_ended c.check-answer.new.source) c.check-answer.result c.check-answer.ensures.ends which)

pub returns-clause-goes_on : goal.returns-clause-goes_on
returns-clause-goes_on g c =
    rw c.status_of.ensures.status (λ which. goes_on_status (g.S.Source.has_ended c.check-answer.new.source) c.check-answer.result c.check-answer.ensures.ends which)

pub returns-clause-form : goal.returns-clause-form
returns-clause-form g c =
    let old = streams g.S.Source.left g.S.Source.faults g.K.Sink.written g.K.Sink.faults c.args.source.now c.args.sink.now in
    let new = streams g.S.Source.left g.S.Source.faults g.K.Sink.written g.K.Sink.faults c.check-answer.new.source c.check-answer.new.sink in
    λ ended text known. rw c.status_of.ensures.status (form_of old new (g.S.Source.has_ended c.check-answer.new.source) text c.check-answer.result c.check-answer.ensures.ok c.check-answer.ensures.err c.check-answer.ensures.ends ended known)

pub returns-clause-too_many : goal.returns-clause-too_many
returns-clause-too_many g c =
    let old = streams g.S.Source.left g.S.Source.faults g.K.Sink.written g.K.Sink.faults c.args.source.now c.args.sink.now in
    let new = streams g.S.Source.left g.S.Source.faults g.K.Sink.written g.K.Sink.faults c.check-answer.new.source c.check-answer.new.sink in
    λ gave. rw c.status_of.ensures.status (too_many_of old new c.check-answer.result c.check-answer.ensures.ok c.check-answer.ensures.err c.check-answer.ensures.spares gave)
