use Rattle.std.proofs.Common.{Ok, Err, sym, ◌∙◌}
use Rattle.usb_io.specs.Reads.{reading}
use Rattle.usb_io.specs.Answers.{fill_came}
use Rattle.usb_device_host.specs.HostCalls.{host_calls}
use Rattle.usb_session_streams.specs.Reads.{buffer_line}
use Rattle.usb_session_calls.specs.Reads.{is_until_short, given_line, filled_as}
use Rattle.usb_session_calls.proofs.ReaderCode.{keeps-along, reads-barred, fill-gave}
use Rattle.usb_session_calls.proofs.filling.fill_open.Goals as goal

pub returns-then-bars_read-clause-answered : goal.returns-then-bars_read-clause-answered
returns-then-bars_read-clause-answered c =
    reads-barred c.args.framing c.args.host.now c.args.reader.now c.args.line.now c.write_condition.new.out c.write_condition.result
    (λ state r at. filled_as state c.args.framing r at (given_line buffer_line) (fill_came host_calls (is_until_short c.args.framing) at.state.timeout (reading state.host at.state)))
    (sym c.bars_read.ensures.barred ∙ c.if-bars_read.true) c.write_condition.ensures.text

pub returns-in-Ok-clause-keeps : goal.returns-in-Ok-clause-keeps
returns-in-Ok-clause-keeps c = keeps-along _ _ c.fill_bytes.follows.holds-at-none.1 c.fill_bytes.follows.holds-at-none.2 c.requires.stands

pub returns-in-Ok-clause-answered : goal.returns-in-Ok-clause-answered
returns-in-Ok-clause-answered c =
    fill-gave c.args.framing c.args.host.now c.fill_bytes.new.host c.args.reader.now c.fill_bytes.follows.lender-at-none (sym c.bars_read.ensures.barred ∙ c.if-bars_read.false)
    (λ z. z.timeout) (given_line buffer_line) c.args.line.now c.write_buffer.new.out c.write_buffer.result (Ok c.in-Ok.bytes.now)
    (rw c.in-Ok.is at c.fill_bytes.follows.holds-at-none.0) c.write_buffer.ensures.text

pub returns-in-Err-Cause-clause-keeps : goal.returns-in-Err-Cause-clause-keeps
returns-in-Err-Cause-clause-keeps c = keeps-along _ _ c.fill_bytes.follows.holds-at-none.1 c.fill_bytes.follows.holds-at-none.2 c.requires.stands

pub returns-in-Err-Cause-clause-answered : goal.returns-in-Err-Cause-clause-answered
returns-in-Err-Cause-clause-answered c =
    fill-gave c.args.framing c.args.host.now c.fill_bytes.new.host c.args.reader.now c.fill_bytes.follows.lender-at-none (sym c.bars_read.ensures.barred ∙ c.if-bars_read.false)
    (λ z. z.timeout) (given_line buffer_line) c.args.line.now c.write_read_fault.new.out c.write_read_fault.result (Err c.in-Err-Cause.fault)
    (rw (c.in-Err-Cause.is, c.in-Err-Cause.field-0-is) at c.fill_bytes.follows.holds-at-none.0) c.write_read_fault.ensures.text

pub returns-in-Err-Memory-clause-keeps : goal.returns-in-Err-Memory-clause-keeps
returns-in-Err-Memory-clause-keeps c = keeps-along _ _ c.fill_bytes.follows.holds-at-none.1 c.fill_bytes.follows.holds-at-none.2 c.requires.stands
