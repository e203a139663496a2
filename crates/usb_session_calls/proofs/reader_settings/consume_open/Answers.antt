use Rattle.std.proofs.Common.{rules}
use Rattle.usb_session_calls.proofs.ReaderCode.{consume-barred, consume-took}
use Rattle.usb_session_calls.proofs.reader_settings.consume_open.Goals as goal

pub returns-then-count-available-clause-answered : goal.returns-then-count-available-clause-answered
returns-then-count-available-clause-answered c = λ host.
    consume-barred c.args.framing host c.args.reader.now c.args.count c.args.line.now c.write_condition.new.out c.write_condition.result (search rules) c.write_condition.ensures.text

pub returns-clause-answered : goal.returns-clause-answered
returns-clause-answered c = λ host.
    consume-took c.args.framing host c.args.reader.now c.take_off.new.reader c.args.count c.args.line.now c.write_ok.new.out c.write_ok.result (search rules) (search rules) c.write_ok.ensures.text
