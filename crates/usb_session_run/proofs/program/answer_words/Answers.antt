use Rattle.usb_session_run.proofs.SessionLemmas.{exact_status, ended_status, goes_on_status, parsed_status, too_many_status}
use Rattle.usb_session_run.proofs.program.answer_words.Goals as goal

pub returns-then-is_session-clause-exact : goal.returns-then-is_session-clause-exact
returns-then-is_session-clause-exact g c =
    λ asked bytes quiet. rw c.status_of.ensures.status (exact_status bytes c.run_session-answer.result (c.run_session-answer.ensures.exact bytes quiet))

pub returns-then-is_session-clause-ended : goal.returns-then-is_session-clause-ended
returns-then-is_session-clause-ended g c =
    let run = c.run_session-answer in
    rw c.status_of.ensures.status (λ asked which. ended_status (g.S.Source.has_ended run.new.source) run.result run.ensures.reads_on which)

pub returns-then-is_session-clause-goes_on : goal.returns-then-is_session-clause-goes_on
returns-then-is_session-clause-goes_on g c =
    let run = c.run_session-answer in
    rw c.status_of.ensures.status (λ which. goes_on_status (g.S.Source.has_ended run.new.source) run.result run.ensures.reads_on which)

pub returns-then-is_session-clause-parsed : goal.returns-then-is_session-clause-parsed
returns-then-is_session-clause-parsed g c =
    let run = c.run_session-answer in
    λ asked ended bytes known. rw c.status_of.ensures.status (parsed_status bytes run.result (run.ensures.parsed ended bytes known))

pub returns-then-is_session-clause-too_many : goal.returns-then-is_session-clause-too_many
returns-then-is_session-clause-too_many g c =
    let run = c.run_session-answer in
    λ asked gave. rw c.status_of.ensures.status (too_many_status run.result (run.ensures.too_many gave))
