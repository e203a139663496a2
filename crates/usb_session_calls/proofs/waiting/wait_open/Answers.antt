use Rattle.std.proofs.Common.{ap, length, ◌∙◌, subst}
use Rattle.usb_session_calls.specs.OpenCalls.{CallAnswers}
use Rattle.usb_session_calls.proofs.PollCode.{nothing_pending}
use Rattle.usb_session_calls.proofs.WaitCode.{wait, wait-barred, wait-answers, wait-keeps}
use Rattle.usb_session_calls.proofs.waiting.wait_open.Goals as goal

pub returns-then-pending-eq0-clause-answered : goal.returns-then-pending-eq0-clause-answered
returns-then-pending-eq0-clause-answered c =
    wait-barred c.args.host.now c.args.endpoint.now c.args.line.now c.write_condition.new.out c.write_condition.result c.args.timeout
    (nothing_pending c.args.endpoint.now.pending c.pending.result c.pending.ensures.count c.if-pending-eq0.true) c.write_condition.ensures.text

pub returns-clause-keeps : goal.returns-clause-keeps
returns-clause-keeps c =
    wait-keeps c.wait_next_complete-done.result c.args.host.now c.wait_next_complete-done.new.bus c.args.endpoint.now c.wait_next_complete-done.new.self c.nanoseconds.result
    c.wait_next_complete-done.ensures.waited c.wait_next_complete-done.ensures.stands c.wait_next_complete-done.ensures.others

pub returns-clause-answered : goal.returns-clause-answered
returns-clause-answered c =
    let x = c.args.endpoint.now in
    let y = c.wait_next_complete-done.new.self in
    subst (λ n. CallAnswers c.args.host.now c.wait_next_complete-done.new.bus x y c.args.line.now c.write_waited.new.out c.write_waited.result (wait n)) c.nanoseconds.ensures.value
    (wait-answers c.wait_next_complete-done.result c.args.host.now c.wait_next_complete-done.new.bus x y c.args.line.now c.write_waited.new.out c.write_waited.result c.nanoseconds.result
    (λ none. c.if-pending-eq0.false (c.pending.ensures.count ∙ ap length none)) c.wait_next_complete-done.ensures.waited c.write_waited.ensures.text)
