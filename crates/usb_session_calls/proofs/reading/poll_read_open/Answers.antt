use Rattle.std.proofs.Common.{rules, arith, ap, ◌≡◌, ◌++◌, Ok, Err, take, length, string_bytes, sym, ◌∙◌, subst}
use Rattle.std.specs.Prelude.{OnOk}
use Rattle.std.proofs.lemmas.List.{with_items_is}
use Rattle.usb_io.specs.Reads.{reading}
use Rattle.usb_io.specs.declared.fault.ReadFault.TheVariants.{TimedOut}
use Rattle.usb_io.specs.Answers.{read_came}
use Rattle.usb_io.specs.Answered.{answered}
use Rattle.usb_device_host.specs.HostCalls.{host_calls}
use Rattle.usb_session_streams.specs.Reads.{read_line}
use Rattle.usb_session_calls.specs.Reads.{is_until_short, polled_given_line, read_as}
use Rattle.usb_session_calls.proofs.ReaderCode.{keeps-along, reads-barred, read-gave, printed-in_time}
use Rattle.usb_session_calls.proofs.reading.poll_read_open.Goals as goal

pub returns-then-bars_read-clause-answered : goal.returns-then-bars_read-clause-answered
returns-then-bars_read-clause-answered c =
    reads-barred c.args.framing c.args.host.now c.args.reader.now c.args.line.now c.write_condition.new.out c.write_condition.result
    (λ state r at. read_as state c.args.framing r at (polled_given_line read_line) (read_came host_calls (is_until_short c.args.framing) 0 c.args.most (reading state.host at.state)))
    (sym c.bars_read.ensures.barred ∙ c.if-bars_read.true) c.write_condition.ensures.text

pub returns-in-Ready-Ok-clause-keeps : goal.returns-in-Ready-Ok-clause-keeps
returns-in-Ready-Ok-clause-keeps c = keeps-along _ _ c.poll_bytes.ensures.goes_on c.poll_bytes.ensures.goes c.requires.stands

pub returns-in-Ready-Ok-clause-answered : goal.returns-in-Ready-Ok-clause-answered
returns-in-Ready-Ok-clause-answered c =
    let written = with_items_is c.in_ok-bytes.bytes c.poll_bytes.new.dest (omega (arith, ap length c.deref_mut.ensures.value)) in
    let now : c.deref.result.now ≡ c.poll_bytes.new.dest = c.deref.ensures.value ∙ written in
    let size : length c.deref_mut.result.now ≡ c.args.most = search rules in
    read-gave c.args.framing c.args.host.now c.poll_bytes.new.host c.args.reader.now c.poll_bytes.new.reader (sym c.bars_read.ensures.barred ∙ c.if-bars_read.false)
    (λ z. 0) (polled_given_line read_line) c.args.line.now c.write_read.new.out c.write_read.result c.args.most (Ok (take c.in-Ready-Ok.count c.poll_bytes.new.dest))
    (subst (λ m. read_came host_calls (is_until_short c.args.framing) 0 m (reading c.args.host.now c.args.reader.now) ≡ answered (Ok (take c.in-Ready-Ok.count c.poll_bytes.new.dest)) (reading c.poll_bytes.new.host c.poll_bytes.new.reader)) size
    (rw (c.in-Ready-Ok.is, c.in-Ready-Ok.field-0-is) at c.poll_bytes.ensures.read))
    (subst (λ l. OnOk c.write_read.result (string_bytes c.write_read.new.out ≡ string_bytes c.args.line.now ++ read_line (take c.in-Ready-Ok.count l))) now c.write_read.ensures.text)

pub returns-in-Ready-Err-Cause-clause-keeps : goal.returns-in-Ready-Err-Cause-clause-keeps
returns-in-Ready-Err-Cause-clause-keeps c = keeps-along _ _ c.poll_bytes.ensures.goes_on c.poll_bytes.ensures.goes c.requires.stands

pub returns-in-Ready-Err-Cause-clause-answered : goal.returns-in-Ready-Err-Cause-clause-answered
returns-in-Ready-Err-Cause-clause-answered c =
    let size : length c.deref_mut.result.now ≡ c.args.most = search rules in
    read-gave c.args.framing c.args.host.now c.poll_bytes.new.host c.args.reader.now c.poll_bytes.new.reader (sym c.bars_read.ensures.barred ∙ c.if-bars_read.false)
    (λ z. 0) (polled_given_line read_line) c.args.line.now c.write_read_fault.new.out c.write_read_fault.result c.args.most (Err c.in-Ready-Err-Cause.fault)
    (subst (λ m. read_came host_calls (is_until_short c.args.framing) 0 m (reading c.args.host.now c.args.reader.now) ≡ answered (Err c.in-Ready-Err-Cause.fault) (reading c.poll_bytes.new.host c.poll_bytes.new.reader)) size
    (rw (c.in-Ready-Err-Cause.is, c.in-Ready-Err-Cause.field-0-is, c.in-Ready-Err-Cause.field-0-0-is) at c.poll_bytes.ensures.failed))
    (printed-in_time read_line c.in-Ready-Err-Cause.fault c.args.line.now c.write_read_fault.new.out c.write_read_fault.result (rw (c.in-Ready-Err-Cause.is, c.in-Ready-Err-Cause.field-0-is, c.in-Ready-Err-Cause.field-0-0-is) at c.poll_bytes.ensures.in_time) c.write_read_fault.ensures.text)

pub returns-in-Ready-Err-Memory-clause-keeps : goal.returns-in-Ready-Err-Memory-clause-keeps
returns-in-Ready-Err-Memory-clause-keeps c = keeps-along _ _ c.poll_bytes.ensures.goes_on c.poll_bytes.ensures.goes c.requires.stands

pub returns-clause-keeps : goal.returns-clause-keeps
returns-clause-keeps c = keeps-along _ _ c.poll_bytes.ensures.goes_on c.poll_bytes.ensures.goes c.requires.stands

pub returns-clause-answered : goal.returns-clause-answered
returns-clause-answered c =
    let size : length c.deref_mut.result.now ≡ c.args.most = search rules in
    read-gave c.args.framing c.args.host.now c.poll_bytes.new.host c.args.reader.now c.poll_bytes.new.reader (sym c.bars_read.ensures.barred ∙ c.if-bars_read.false)
    (λ z. 0) (polled_given_line read_line) c.args.line.now c.write_pending.new.out c.write_pending.result c.args.most (Err TimedOut)
    (subst (λ m. read_came host_calls (is_until_short c.args.framing) 0 m (reading c.args.host.now c.args.reader.now) ≡ answered (Err TimedOut) (reading c.poll_bytes.new.host c.poll_bytes.new.reader)) size (rw c.in-Pending.is at c.poll_bytes.ensures.failed))
    c.write_pending.ensures.text
