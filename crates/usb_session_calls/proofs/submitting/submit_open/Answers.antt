use Rattle.std.proofs.Common.{refl, sym, ◌∙◌, length}
use Rattle.usb_device_endpoint.specs.EndpointState.{EndpointState}
use Rattle.usb_kernel.specs.Tickets.{tickets}
use Rattle.usb_session_calls.specs.Submits.{deadline_by}
use Rattle.usb_session_calls.proofs.SubmitCode.{submit-barred, submit-made, submit-line, submit-past, submit-same, submit-accounts, ok-holds}
use Rattle.usb_session_calls.proofs.submitting.submit_open.Goals as goal
use Rattle.usb_session_calls.proofs.submitting.submit_open.Goals.{in-Ok, in-Err}

pub returns-then-bars_submission-clause-answered : goal.returns-then-bars_submission-clause-answered
returns-then-bars_submission-clause-answered c =
    submit-barred c.args.host.now c.args.endpoint.now c.args.line.now c.write_condition.new.out c.write_condition.result c.args.direction c.args.buffer c.args.timeout
    (sym c.bars_submission.ensures.barred ∙ c.if-bars_submission.true) c.write_condition.ensures.text

pub returns-clause-keeps : goal.returns-clause-keeps
returns-clause-keeps c =
    let x = c.args.endpoint.now in
    let y = c.hand_in.new.endpoint in
    let deadline = deadline_by c.args.host.now c.args.timeout in
    record {
      line = submit-line c.hand_in.result c.args.host.now c.hand_in.new.host x y deadline c.args.buffer c.hand_in.ensures.bus c.hand_in.ensures.err;
      past = submit-past c.hand_in.result c.args.host.now c.hand_in.new.host x y deadline c.args.buffer c.hand_in.ensures.bus c.hand_in.ensures.err;
      stands = c.hand_in.ensures.stands;
      others = c.hand_in.ensures.others;
      key = submit-same (λ (z : EndpointState). z.key) (λ z ts. refl) c.hand_in.result c.args.host.now c.hand_in.new.host x y (length (tickets c.args.host.now.kernel.past)) c.hand_in.ensures.pending c.hand_in.ensures.err;
      accounts = submit-accounts c.hand_in.result c.args.host.now c.hand_in.new.host x y deadline c.args.buffer c.requires.stands c.hand_in.ensures.bus c.hand_in.ensures.pending c.hand_in.ensures.err;
      maximum = submit-same (λ (z : EndpointState). z.maximum) (λ z ts. refl) c.hand_in.result c.args.host.now c.hand_in.new.host x y (length (tickets c.args.host.now.kernel.past)) c.hand_in.ensures.pending c.hand_in.ensures.err;
    }

pub returns-clause-answered : goal.returns-clause-answered
returns-clause-answered c =
    elim c.match-hand_in.branch [
      | in-Ok w ↦ rw (w.line-is, w.result-is)
          (submit-made c.args.host.now c.hand_in.new.host c.args.endpoint.now c.hand_in.new.endpoint c.args.line.now w.write_ok.new.out w.write_ok.result c.args.direction c.args.buffer c.args.timeout
          (sym c.bars_submission.ensures.barred ∙ c.if-bars_submission.false)
          (ok-holds c.hand_in.result w.in-Ok.field-0 w.in-Ok.is c.hand_in.ensures.bus)
          (ok-holds c.hand_in.result w.in-Ok.field-0 w.in-Ok.is c.hand_in.ensures.pending) w.write_ok.ensures.text)
      | in-Err w ↦ rw w.result-is tt
    ]
