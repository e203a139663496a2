use Rattle.std.proofs.Common.{rules, arith, ap, ◌≡◌, ◌++◌, Ok, Err, take, length, string_bytes, sym, ◌∙◌, subst}
use Rattle.std.specs.Prelude.{OnOk}
use Rattle.std.proofs.lemmas.List.{with_items_is}
use Rattle.usb_io.specs.Reads.{reading}
use Rattle.usb_io.specs.Answers.{read_came}
use Rattle.usb_io.specs.Answered.{answered}
use Rattle.usb_device_host.specs.HostCalls.{host_calls}
use Rattle.usb_session_streams.specs.Reads.{read_line}
use Rattle.usb_session_calls.specs.Reads.{is_until_short, given_line, read_as}
use Rattle.usb_session_calls.proofs.ReaderCode.{keeps-along, reads-barred, read-gave}
use Rattle.usb_session_calls.proofs.reading.read_open.Goals as goal

pub returns-then-bars_read-clause-answered : goal.returns-then-bars_read-clause-answered
returns-then-bars_read-clause-answered c =
    reads-barred c.args.framing c.args.host.now c.args.reader.now c.args.line.now c.write_condition.new.out c.write_condition.result
    (λ state r at. read_as state c.args.framing r at (given_line read_line) (read_came host_calls (is_until_short c.args.framing) at.state.timeout c.args.most (reading state.host at.state)))
    (sym c.bars_read.ensures.barred ∙ c.if-bars_read.true) c.write_condition.ensures.text

pub returns-in-Ok-clause-keeps : goal.returns-in-Ok-clause-keeps
returns-in-Ok-clause-keeps c = keeps-along _ _ c.read_bytes.ensures.goes_on c.read_bytes.ensures.goes c.requires.stands

pub returns-in-Ok-clause-answered : goal.returns-in-Ok-clause-answered
returns-in-Ok-clause-answered c =
    let written = with_items_is c.in_ok-bytes.bytes c.read_bytes.new.dest (omega (arith, ap length c.deref_mut.ensures.value)) in
    let now : c.deref.result.now ≡ c.read_bytes.new.dest = c.deref.ensures.value ∙ written in
    let size : length c.deref_mut.result.now ≡ c.args.most = search rules in
    read-gave c.args.framing c.args.host.now c.read_bytes.new.host c.args.reader.now c.read_bytes.new.reader (sym c.bars_read.ensures.barred ∙ c.if-bars_read.false)
    (λ z. z.timeout) (given_line read_line) c.args.line.now c.write_read.new.out c.write_read.result c.args.most (Ok (take c.in-Ok.count c.read_bytes.new.dest))
    (subst (λ m. read_came host_calls (is_until_short c.args.framing) c.args.reader.now.timeout m (reading c.args.host.now c.args.reader.now) ≡ answered (Ok (take c.in-Ok.count c.read_bytes.new.dest)) (reading c.read_bytes.new.host c.read_bytes.new.reader)) size c.in-Ok.ensures.read)
    (subst (λ l. OnOk c.write_read.result (string_bytes c.write_read.new.out ≡ string_bytes c.args.line.now ++ read_line (take c.in-Ok.count l))) now c.write_read.ensures.text)

pub returns-in-Err-Cause-clause-keeps : goal.returns-in-Err-Cause-clause-keeps
returns-in-Err-Cause-clause-keeps c = keeps-along _ _ c.read_bytes.ensures.goes_on c.read_bytes.ensures.goes c.requires.stands

pub returns-in-Err-Cause-clause-answered : goal.returns-in-Err-Cause-clause-answered
returns-in-Err-Cause-clause-answered c =
    let size : length c.deref_mut.result.now ≡ c.args.most = search rules in
    read-gave c.args.framing c.args.host.now c.read_bytes.new.host c.args.reader.now c.read_bytes.new.reader (sym c.bars_read.ensures.barred ∙ c.if-bars_read.false)
    (λ z. z.timeout) (given_line read_line) c.args.line.now c.write_read_fault.new.out c.write_read_fault.result c.args.most (Err c.in-Err-Cause.fault)
    (subst (λ m. read_came host_calls (is_until_short c.args.framing) c.args.reader.now.timeout m (reading c.args.host.now c.args.reader.now) ≡ answered (Err c.in-Err-Cause.fault) (reading c.read_bytes.new.host c.read_bytes.new.reader)) size (rw c.in-Err-Cause.field-0-is at c.in-Err-Cause.ensures.failed))
    c.write_read_fault.ensures.text

pub returns-clause-keeps : goal.returns-clause-keeps
returns-clause-keeps c = keeps-along _ _ c.read_bytes.ensures.goes_on c.read_bytes.ensures.goes c.requires.stands
