use Rattle.usb_session_calls.proofs.PollCode.{pending-counted}
use Rattle.usb_session_calls.proofs.polling.pending_open.Goals as goal

pub returns : goal.returns
returns c = record {
  answered = λ host.
      pending-counted host c.args.endpoint.now c.pending.result c.args.line.now c.write_count.new.out c.write_count.result c.pending.ensures.count c.write_count.ensures.text;
}
