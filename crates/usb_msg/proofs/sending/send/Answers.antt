use Rattle.std.proofs.Common.{arith, ◌∷◌, []}
use Rattle.usb_io.specs.Writers.{writing}
use Rattle.usb_io.specs.Writes.{Finish}
use Rattle.usb_io.proofs.AlongLemmas.{writes-trans}
use Rattle.usb_msg.proofs.WholeFrames.{wrote-whole, failed-none, short-none, sent-tells, unended-tells}
use Rattle.usb_msg.proofs.sending.send.Goals as goal

pub submit_end-requires-clause-few : goal.submit_end-requires-clause-few
submit_end-requires-clause-few g c =
    let whole = wrote-whole g.B.Bus.calls c.args.writer.now.timeout c.args.frame.now (writing c.args.bus.now c.args.writer.now) (writing c.write.new.bus c.write.new.self) c.in-Ok.field-0 c.in-Ok.ensures.wrote c.requires.empty c.requires.short c.requires.holds in
    let few = whole.few in
    let all = c.requires.few in
    rw (whole.stands, whole.maximum) (omega (arith, few, all))

pub returns-in-Ok-submit_end-clause-sent : goal.returns-in-Ok-submit_end-clause-sent
returns-in-Ok-submit_end-clause-sent g c = record {
  count = c.in-Ok.field-0;
  mid = writing c.write.new.bus c.write.new.self;
  written = c.in-Ok.ensures.wrote;
  sent = c.in-Ok-submit_end.ensures.ok;
}

pub returns-in-Ok-submit_end-clause-tells : goal.returns-in-Ok-submit_end-clause-tells
returns-in-Ok-submit_end-clause-tells g c =
    let whole = wrote-whole g.B.Bus.calls c.args.writer.now.timeout c.args.frame.now (writing c.args.bus.now c.args.writer.now) (writing c.write.new.bus c.write.new.self) c.in-Ok.field-0 c.in-Ok.ensures.wrote c.requires.empty c.requires.short c.requires.holds in
    sent-tells (g.B.Bus.calls.state c.args.bus.now) (g.B.Bus.calls.state c.write.new.bus) (g.B.Bus.calls.state c.submit_end.new.bus) c.args.writer.now c.write.new.self c.submit_end.new.self c.args.frame.now c.in-Ok.field-0 whole.all c.in-Ok.ensures.tells (Finish ∷ []) c.in-Ok-submit_end.ensures.tells

pub returns-in-Ok-submit_end-clause-goes : goal.returns-in-Ok-submit_end-clause-goes
returns-in-Ok-submit_end-clause-goes g c = writes-trans c.write.ensures.goes c.submit_end.ensures.goes

pub returns-in-Err-clause-failed : goal.returns-in-Err-clause-failed
returns-in-Err-clause-failed g c = record {
  count = c.in-Ok.field-0;
  mid = writing c.write.new.bus c.write.new.self;
  written = c.in-Ok.ensures.wrote;
  short = c.in-Err.ensures.err;
}

pub returns-in-Err-clause-tells : goal.returns-in-Err-clause-tells
returns-in-Err-clause-tells g c =
    let whole = wrote-whole g.B.Bus.calls c.args.writer.now.timeout c.args.frame.now (writing c.args.bus.now c.args.writer.now) (writing c.write.new.bus c.write.new.self) c.in-Ok.field-0 c.in-Ok.ensures.wrote c.requires.empty c.requires.short c.requires.holds in
    unended-tells (g.B.Bus.calls.state c.args.bus.now) (g.B.Bus.calls.state c.write.new.bus) (g.B.Bus.calls.state c.submit_end.new.bus) c.args.writer.now c.write.new.self c.submit_end.new.self c.args.frame.now c.in-Ok.field-0 whole.all c.in-Ok.ensures.tells c.in-Err.ensures.short

pub returns-in-Err-clause-goes : goal.returns-in-Err-clause-goes
returns-in-Err-clause-goes g c = writes-trans c.write.ensures.goes c.submit_end.ensures.goes

pub returns-in-Err-Cause-clause-nothing : goal.returns-in-Err-Cause-clause-nothing
returns-in-Err-Cause-clause-nothing g c =
    failed-none g.B.Bus.calls c.args.writer.now.timeout c.args.frame.now (writing c.args.bus.now c.args.writer.now) (writing c.write.new.bus c.write.new.self) c.in-Err-Cause.fault (rw c.in-Err-Cause.field-0-is at c.in-Err-Cause.ensures.failed) c.requires.empty

pub returns-in-Err-Memory-clause-nothing : goal.returns-in-Err-Memory-clause-nothing
returns-in-Err-Memory-clause-nothing g c =
    short-none g.B.Bus.calls c.args.writer.now.timeout c.args.frame.now (writing c.args.bus.now c.args.writer.now) (writing c.write.new.bus c.write.new.self) (rw c.in-Err-Memory.field-0-is at c.in-Err-Memory.ensures.failed) c.requires.empty
