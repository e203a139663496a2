use Rattle.std.proofs.Common.{ap, sym, ◌∙◌}
use Rattle.usb_io.specs.Carried.{sent_bytes}
use Rattle.usb_io.specs.Writers.{WriterState, bytes_of}
use Rattle.usb_io.proofs.Carrying.{carries_none, none-sent}
use Rattle.usb_io.proofs.writer.EndpointWrite.send_buffer.Goals as goal

pub returns-in-None-clause-carries : goal.returns-in-None-clause-carries
returns-in-None-clause-carries g c =
    carries_none (g.B.Bus.calls.state c.args.bus.now) c.self.inside.endpoint c.args.self.now.endpoint _ (ap (λ (w : WriterState). w.endpoint) c.self.view_is)
    (ap (λ (w : WriterState). sent_bytes w.buffer) (sym c.self.view_is) ∙ ap (λ b. sent_bytes (bytes_of b)) (sym c.in-None.ensures.value))

pub returns-in-Some-clause-carries : goal.returns-in-Some-clause-carries
returns-in-Some-clause-carries g c =
    carries_none (g.B.Bus.calls.state c.args.bus.now) c.self.inside.endpoint c.args.self.now.endpoint _ (ap (λ (w : WriterState). w.endpoint) c.self.view_is)
    (ap (λ (w : WriterState). sent_bytes w.buffer) (sym c.self.view_is) ∙ ap (λ b. sent_bytes (bytes_of b)) (sym c.in-Some.ensures.value) ∙ none-sent c.in-Some.buffer.bytes c.if-is_empty.ensures.empty)
