use Rattle.std.proofs.Common.{ap, sym, subst, ◌≡◌, Result, Ok, Err, OnOk, true, false, rules}
use Rattle.std.specs.Prelude.{is_err}
use Rattle.usb_io.specs.Along.{WritesAlong}
use Rattle.usb_io.specs.Writers.{WriterState, writing, not_begun}
use Rattle.usb_io.proofs.AlongLemmas.{writes-trans}
use Rattle.usb_io.proofs.WriteLemmas.{poll_end-done, poll_end-failed, poll_end-waits}
use Rattle.usb_io.proofs.writer.EndpointWrite.poll_flush_end.Goals as goal

where-ok : {A E P : Type 0} (r : Result A E) → false ≡ is_err r → OnOk r P → P
where-ok (Ok x) is p = p
where-ok (Err e) is p = absurd (let h : false ≡ true = is in cc)

pub returns-in-Ok-clause-ok : goal.returns-in-Ok-clause-ok
returns-in-Ok-clause-ok g c =
    poll_end-done g.B.Bus.calls (writing c.args.bus.now c.args.self.now) (writing c.begin_end.new.bus c.begin_end.new.self) (writing c.drain.new.bus c.drain.new.self) _
    (where-ok c.begin_end.result c.if-is_err.ensures.value c.begin_end.ensures.ok) c.in-Ok.ensures.drained (ap (λ (w : WriterState). not_begun (writing c.drain.new.bus w)) c.self.view_is)

pub returns-in-Err-clause-failed : goal.returns-in-Err-clause-failed
returns-in-Err-clause-failed g c =
    poll_end-failed g.B.Bus.calls (writing c.args.bus.now c.args.self.now) (writing c.begin_end.new.bus c.begin_end.new.self) (writing c.drain.new.bus c.drain.new.self) _
    (where-ok c.begin_end.result c.if-is_err.ensures.value c.begin_end.ensures.ok) c.in-Err.fault (search rules) c.in-Err.ensures.drained (ap (λ (w : WriterState). not_begun (writing c.drain.new.bus w)) c.self.view_is)

pub returns-in-Err-TimedOut-clause-failed : goal.returns-in-Err-TimedOut-clause-failed
returns-in-Err-TimedOut-clause-failed g c =
    poll_end-waits g.B.Bus.calls (writing c.args.bus.now c.args.self.now) (writing c.begin_end.new.bus c.begin_end.new.self) (writing c.drain.new.bus c.drain.new.self) (writing c.drain.new.bus c.drain.new.self)
    (where-ok c.begin_end.result c.if-is_err.ensures.value c.begin_end.ensures.ok) (rw c.in-Err-TimedOut.field-0-is at c.in-Err-TimedOut.ensures.drained)

pub invariant_of-self : goal.invariant_of-self
invariant_of-self g c = c.self.invariant

pub invariant_of-self-in-Ok : goal.invariant_of-self-in-Ok
invariant_of-self-in-Ok g c = c.self.invariant

pub returns-in-Err-TimedOut-clause-goes : goal.returns-in-Err-TimedOut-clause-goes
returns-in-Err-TimedOut-clause-goes g c = writes-trans c.begin_end.ensures.goes c.drain.ensures.goes

pub returns-in-Ok-clause-goes : goal.returns-in-Ok-clause-goes
returns-in-Ok-clause-goes g c =
    subst (λ (w : WriterState). WritesAlong (g.B.Bus.calls.state c.args.bus.now) (g.B.Bus.calls.state c.drain.new.bus) c.args.self.now.endpoint w.endpoint) (sym c.self.view_is)
    (writes-trans c.begin_end.ensures.goes c.drain.ensures.goes)

pub returns-in-Err-clause-goes : goal.returns-in-Err-clause-goes
returns-in-Err-clause-goes g c =
    subst (λ (w : WriterState). WritesAlong (g.B.Bus.calls.state c.args.bus.now) (g.B.Bus.calls.state c.drain.new.bus) c.args.self.now.endpoint w.endpoint) (sym c.self.view_is)
    (writes-trans c.begin_end.ensures.goes c.drain.ensures.goes)
