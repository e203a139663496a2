use Rattle.std.proofs.Common.{Ok, Err, sym, ◌∙◌}
use Rattle.usb_io.specs.Reads.{reading}
use Rattle.usb_io.specs.declared.fault.ReadFault.TheVariants.{TimedOut}
use Rattle.usb_io.specs.Answers.{fill_came}
use Rattle.usb_device_host.specs.HostCalls.{host_calls}
use Rattle.usb_session_streams.specs.Reads.{buffer_line}
use Rattle.usb_session_calls.specs.Reads.{is_until_short, polled_given_line, filled_as}
use Rattle.usb_session_calls.proofs.ReaderCode.{keeps-along, reads-barred, fill-gave, printed-in_time}
use Rattle.usb_session_calls.proofs.filling.poll_fill_open.Goals as goal

pub returns-then-bars_read-clause-answered : goal.returns-then-bars_read-clause-answered
returns-then-bars_read-clause-answered c =
    reads-barred c.args.framing c.args.host.now c.args.reader.now c.args.line.now c.write_condition.new.out c.write_condition.result
    (λ state r at. filled_as state c.args.framing r at (polled_given_line buffer_line) (fill_came host_calls (is_until_short c.args.framing) 0 (reading state.host at.state)))
    (sym c.bars_read.ensures.barred ∙ c.if-bars_read.true) c.write_condition.ensures.text

pub returns-in-Ready-Ok-clause-keeps : goal.returns-in-Ready-Ok-clause-keeps
returns-in-Ready-Ok-clause-keeps c = keeps-along _ _ c.poll_fill_bytes.follows.holds-at-none.1 c.poll_fill_bytes.follows.holds-at-none.2 c.requires.stands

pub returns-in-Ready-Ok-clause-answered : goal.returns-in-Ready-Ok-clause-answered
returns-in-Ready-Ok-clause-answered c =
    let came = rw (c.in-Ready-Ok.is, c.in-Ready-Ok.field-0-is) at c.poll_fill_bytes.follows.holds-at-none.0 in
    fill-gave c.args.framing c.args.host.now c.poll_fill_bytes.new.host c.args.reader.now c.poll_fill_bytes.follows.lender-at-none (sym c.bars_read.ensures.barred ∙ c.if-bars_read.false)
    (λ z. 0) (polled_given_line buffer_line) c.args.line.now c.write_buffer.new.out c.write_buffer.result (Ok c.in-Ready-Ok.bytes.now) came.0 c.write_buffer.ensures.text

pub returns-in-Ready-Err-Cause-clause-keeps : goal.returns-in-Ready-Err-Cause-clause-keeps
returns-in-Ready-Err-Cause-clause-keeps c = keeps-along _ _ c.poll_fill_bytes.follows.holds-at-none.1 c.poll_fill_bytes.follows.holds-at-none.2 c.requires.stands

pub returns-in-Ready-Err-Cause-clause-answered : goal.returns-in-Ready-Err-Cause-clause-answered
returns-in-Ready-Err-Cause-clause-answered c =
    let came = rw (c.in-Ready-Err-Cause.is, c.in-Ready-Err-Cause.field-0-is, c.in-Ready-Err-Cause.field-0-0-is) at c.poll_fill_bytes.follows.holds-at-none.0 in
    fill-gave c.args.framing c.args.host.now c.poll_fill_bytes.new.host c.args.reader.now c.poll_fill_bytes.follows.lender-at-none (sym c.bars_read.ensures.barred ∙ c.if-bars_read.false)
    (λ z. 0) (polled_given_line buffer_line) c.args.line.now c.write_read_fault.new.out c.write_read_fault.result (Err c.in-Ready-Err-Cause.fault) came.0
    (printed-in_time buffer_line c.in-Ready-Err-Cause.fault c.args.line.now c.write_read_fault.new.out c.write_read_fault.result came.1 c.write_read_fault.ensures.text)

pub returns-in-Ready-Err-Memory-clause-keeps : goal.returns-in-Ready-Err-Memory-clause-keeps
returns-in-Ready-Err-Memory-clause-keeps c = keeps-along _ _ c.poll_fill_bytes.follows.holds-at-none.1 c.poll_fill_bytes.follows.holds-at-none.2 c.requires.stands

pub returns-in-Pending-clause-keeps : goal.returns-in-Pending-clause-keeps
returns-in-Pending-clause-keeps c = keeps-along _ _ c.poll_fill_bytes.follows.holds-at-none.1 c.poll_fill_bytes.follows.holds-at-none.2 c.requires.stands

pub returns-in-Pending-clause-answered : goal.returns-in-Pending-clause-answered
returns-in-Pending-clause-answered c =
    let came = rw c.in-Pending.is at c.poll_fill_bytes.follows.holds-at-none.0 in
    fill-gave c.args.framing c.args.host.now c.poll_fill_bytes.new.host c.args.reader.now c.poll_fill_bytes.follows.lender-at-none (sym c.bars_read.ensures.barred ∙ c.if-bars_read.false)
    (λ z. 0) (polled_given_line buffer_line) c.args.line.now c.write_pending.new.out c.write_pending.result (Err TimedOut) came.0 c.write_pending.ensures.text
