use Rattle.std.proofs.Common.{subst, ◌≡◌, take, [], ◌∷◌, Ok, Err}
use Rattle.usb_io.specs.Along.{WritesAlong}
use Rattle.usb_io.specs.Carried.{TellsOn}
use Rattle.usb_io.specs.Writes.{Accept}
use Rattle.usb_io.proofs.AlongLemmas.{writes-trans}
use Rattle.usb_io.proofs.Carrying.{tells_trans, tells_accepted}
use Rattle.usb_io.proofs.WriteLemmas.{write-wrote, write-short, write-failed}
use Rattle.usb_io.specs.Answered.{answered}
use Rattle.usb_io.specs.WriteAnswers.{write_drained}
use Rattle.usb_io.specs.Writers.{WriterState, writing}
use Rattle.usb_io.proofs.writer.EndpointWrite.write_within.Goals as goal

pub returns-in-Ok-accept-clause-wrote : goal.returns-in-Ok-accept-clause-wrote
returns-in-Ok-accept-clause-wrote g c =
    write-wrote g.B.Bus.calls c.args.timeout c.args.src.now (writing c.args.bus.now c.args.self.now) (writing c.drain.new.bus c.drain.new.self) (writing c.accept.new.bus c.accept.new.self) c.in-Ok-accept.n
    (subst (λ (w : WriterState). write_drained g.B.Bus.calls c.args.timeout (writing c.args.bus.now w) ≡ answered (Ok tt) (writing c.drain.new.bus c.drain.new.self)) c.self.view_is c.in-Ok.ensures.drained) c.in-Ok-accept.ensures.count c.in-Ok-accept.ensures.ok

pub returns-in-Err-accept-clause-failed : goal.returns-in-Err-accept-clause-failed
returns-in-Err-accept-clause-failed g c =
    write-short g.B.Bus.calls c.args.timeout c.args.src.now (writing c.args.bus.now c.args.self.now) (writing c.drain.new.bus c.drain.new.self) (writing c.accept.new.bus c.accept.new.self)
    (subst (λ (w : WriterState). write_drained g.B.Bus.calls c.args.timeout (writing c.args.bus.now w) ≡ answered (Ok tt) (writing c.drain.new.bus c.drain.new.self)) c.self.view_is c.in-Ok.ensures.drained) c.in-Err-accept.ensures.none

pub returns-in-Err-clause-failed : goal.returns-in-Err-clause-failed
returns-in-Err-clause-failed g c =
    write-failed g.B.Bus.calls c.args.timeout c.args.src.now (writing c.args.bus.now c.args.self.now) (writing c.drain.new.bus c.drain.new.self) c.in-Err.fault
    (subst (λ (w : WriterState). write_drained g.B.Bus.calls c.args.timeout (writing c.args.bus.now w) ≡ answered (Err c.in-Err.fault) (writing c.drain.new.bus c.drain.new.self)) c.self.view_is c.in-Err.ensures.drained)

pub returns-in-Ok-accept-clause-tells : goal.returns-in-Ok-accept-clause-tells
returns-in-Ok-accept-clause-tells g c =
    tells_trans (g.B.Bus.calls.state c.args.bus.now) (g.B.Bus.calls.state c.drain.new.bus) (g.B.Bus.calls.state c.accept.new.bus) c.args.self.now c.drain.new.self c.accept.new.self [] (Accept (take c.in-Ok-accept.n c.args.src.now) ∷ [])
    (subst (λ (w : WriterState). TellsOn (g.B.Bus.calls.state c.args.bus.now) (g.B.Bus.calls.state c.drain.new.bus) w c.drain.new.self []) c.self.view_is c.drain.ensures.tells)
    (tells_accepted g.B.Bus.calls c.drain.new.bus c.accept.new.bus c.drain.new.self c.accept.new.self c.args.src.now c.in-Ok-accept.n c.in-Ok-accept.ensures.count c.in-Ok-accept.ensures.ok c.in-Ok-accept.ensures.carries)

pub returns-in-Ok-accept-clause-goes : goal.returns-in-Ok-accept-clause-goes
returns-in-Ok-accept-clause-goes g c =
    subst (λ (w : WriterState). WritesAlong (g.B.Bus.calls.state c.args.bus.now) (g.B.Bus.calls.state c.accept.new.bus) w.endpoint c.accept.new.self.endpoint) c.self.view_is
    (writes-trans c.drain.ensures.goes c.accept.ensures.goes)
