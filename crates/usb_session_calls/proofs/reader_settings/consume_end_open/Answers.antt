use Rattle.usb_session_calls.proofs.ReaderCode.{end-taken, end-rest}
use Rattle.usb_session_calls.proofs.reader_settings.consume_end_open.Goals as goal

pub returns-clause-endpoint : goal.returns-clause-endpoint
returns-clause-endpoint c =
    end-rest c.args.reader.now c.take_end_off-answer.new.reader c.take_end_off-answer.result c.take_end_off-answer.ensures.ok c.take_end_off-answer.ensures.err

pub returns-clause-answered : goal.returns-clause-answered
returns-clause-answered c = λ host.
    end-taken host c.args.reader.now c.take_end_off-answer.new.reader c.take_end_off-answer.result c.args.line.now c.write_consumed_end.new.out c.write_consumed_end.result
    c.take_end_off-answer.ensures.ok c.take_end_off-answer.ensures.err c.write_consumed_end.ensures.text
