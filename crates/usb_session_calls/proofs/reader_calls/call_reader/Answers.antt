use Rattle.usb_session_calls.proofs.ReaderCode.{keeps-rest}
use Rattle.usb_session_calls.proofs.reader_calls.call_reader.Goals as goal

pub returns-in-Consume-clause-keeps : goal.returns-in-Consume-clause-keeps
returns-in-Consume-clause-keeps c = keeps-rest c.args.host.now _ _ c.requires.stands c.consume_open.ensures.endpoint

pub returns-in-ConsumeEnd-clause-keeps : goal.returns-in-ConsumeEnd-clause-keeps
returns-in-ConsumeEnd-clause-keeps c = keeps-rest c.args.host.now _ _ c.requires.stands c.consume_end_open.ensures.endpoint

pub returns-in-SetReadTimeout-clause-keeps : goal.returns-in-SetReadTimeout-clause-keeps
returns-in-SetReadTimeout-clause-keeps c = keeps-rest c.args.host.now _ _ c.requires.stands c.timeout_open.ensures.endpoint

pub returns-in-Read-clause-answered : goal.returns-in-Read-clause-answered
returns-in-Read-clause-answered c = rw c.in-Read.is c.read_open.ensures.answered

pub returns-in-PollRead-clause-answered : goal.returns-in-PollRead-clause-answered
returns-in-PollRead-clause-answered c = rw c.in-PollRead.is c.poll_read_open.ensures.answered

pub returns-in-FillBuf-clause-answered : goal.returns-in-FillBuf-clause-answered
returns-in-FillBuf-clause-answered c = rw c.in-FillBuf.is c.fill_open.ensures.answered

pub returns-in-PollFillBuf-clause-answered : goal.returns-in-PollFillBuf-clause-answered
returns-in-PollFillBuf-clause-answered c = rw c.in-PollFillBuf.is c.poll_fill_open.ensures.answered

pub returns-in-Consume-clause-answered : goal.returns-in-Consume-clause-answered
returns-in-Consume-clause-answered c = rw c.in-Consume.is (c.consume_open.ensures.answered c.args.host.now)

pub returns-in-ConsumeEnd-clause-answered : goal.returns-in-ConsumeEnd-clause-answered
returns-in-ConsumeEnd-clause-answered c = rw c.in-ConsumeEnd.is (c.consume_end_open.ensures.answered c.args.host.now)

pub returns-in-SetNumTransfers-clause-answered : goal.returns-in-SetNumTransfers-clause-answered
returns-in-SetNumTransfers-clause-answered c = rw c.in-SetNumTransfers.is c.num_open.ensures.answered

pub returns-in-IsEnd-clause-answered : goal.returns-in-IsEnd-clause-answered
returns-in-IsEnd-clause-answered c = rw c.in-IsEnd.is (c.is_end_open.ensures.answered c.args.host.now)

pub returns-in-SetReadTimeout-clause-answered : goal.returns-in-SetReadTimeout-clause-answered
returns-in-SetReadTimeout-clause-answered c = rw c.in-SetReadTimeout.is (c.timeout_open.ensures.answered c.args.host.now)

pub returns-in-Cancel-clause-answered : goal.returns-in-Cancel-clause-answered
returns-in-Cancel-clause-answered c = rw c.in-Cancel.is c.cancel_reader_open.ensures.answered

pub returns-in-ClearHalt-clause-answered : goal.returns-in-ClearHalt-clause-answered
returns-in-ClearHalt-clause-answered c = rw c.in-ClearHalt.is c.clear_reader_open.ensures.answered
