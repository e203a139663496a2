use Rattle.std.proofs.Common.{ap, length, Some, None, ◌∙◌}
use Rattle.usb_session_calls.proofs.PollCode.{nothing_pending, poll-barred, poll-answers, poll-keeps}
use Rattle.usb_session_calls.proofs.polling.poll_open.Goals as goal

pub returns-then-pending-eq0-clause-answered : goal.returns-then-pending-eq0-clause-answered
returns-then-pending-eq0-clause-answered c =
    poll-barred c.args.host.now c.args.endpoint.now c.args.line.now c.write_condition.new.out c.write_condition.result
    (nothing_pending c.args.endpoint.now.pending c.pending.result c.pending.ensures.count c.if-pending-eq0.true) c.write_condition.ensures.text

pub returns-in-Ready-clause-keeps : goal.returns-in-Ready-clause-keeps
returns-in-Ready-clause-keeps c =
    poll-keeps c.args.host.now c.poll_next_complete.new.bus c.args.endpoint.now c.poll_next_complete.new.self (Some c.in-Ready.completion) c.in-Ready.ensures.polled c.poll_next_complete.ensures.stands c.poll_next_complete.ensures.others

pub returns-in-Ready-clause-answered : goal.returns-in-Ready-clause-answered
returns-in-Ready-clause-answered c =
    poll-answers c.args.host.now c.poll_next_complete.new.bus c.args.endpoint.now c.poll_next_complete.new.self c.args.line.now c.write_polled.new.out c.write_polled.result (Some c.in-Ready.completion)
    (λ none. c.if-pending-eq0.false (c.pending.ensures.count ∙ ap length none)) c.in-Ready.ensures.polled c.write_polled.ensures.text

pub returns-in-Pending-clause-keeps : goal.returns-in-Pending-clause-keeps
returns-in-Pending-clause-keeps c =
    poll-keeps c.args.host.now c.poll_next_complete.new.bus c.args.endpoint.now c.poll_next_complete.new.self None c.in-Pending.ensures.polled c.poll_next_complete.ensures.stands c.poll_next_complete.ensures.others

pub returns-in-Pending-clause-answered : goal.returns-in-Pending-clause-answered
returns-in-Pending-clause-answered c =
    poll-answers c.args.host.now c.poll_next_complete.new.bus c.args.endpoint.now c.poll_next_complete.new.self c.args.line.now c.write_polled-in-Pending.new.out c.write_polled-in-Pending.result None
    (λ none. c.if-pending-eq0.false (c.pending.ensures.count ∙ ap length none)) c.in-Pending.ensures.polled c.write_polled-in-Pending.ensures.text
