use Rattle.std.proofs.Common.{ap}
use Rattle.usb_io.specs.Writers.{WriterState}
use Rattle.usb_io.proofs.AlongLemmas.{writes-submitted}
use Rattle.usb_io.proofs.Carrying.{carries_submitted_ok}
use Rattle.usb_io.proofs.writer.EndpointWrite.send.Goals as goal

pub returns-clause-carries : goal.returns-clause-carries
returns-clause-carries g c =
    carries_submitted_ok c.submit.result g.B.Bus.calls.state c.args.bus.now c.submit.new.bus c.self.inside.endpoint c.args.self.now.endpoint c.submit.new.self _ _ (ap (λ (w : WriterState). w.endpoint) c.self.view_is) c.self.invariant.address c.submit.ensures.enters c.submit.ensures.pending

pub returns-clause-goes : goal.returns-clause-goes
returns-clause-goes g c =
    writes-submitted g.B.Bus.calls.state c.submit.result c.args.bus.now c.submit.new.bus _ _ _ c.self.inside.endpoint c.args.self.now.endpoint c.submit.new.self _ (ap (λ (w : WriterState). w.endpoint) c.self.view_is) c.requires.few
    c.submit.ensures.enters c.submit.ensures.err c.submit.ensures.pending c.submit.ensures.stands c.submit.ensures.others c.submit.ensures.rest
