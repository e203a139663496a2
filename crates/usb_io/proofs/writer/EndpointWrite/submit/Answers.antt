use Rattle.std.proofs.Common.{subst}
use Rattle.usb_io.specs.Carried.{TellsOn, submitted_calls}
use Rattle.usb_io.specs.Writers.{WriterState}
use Rattle.usb_io.proofs.Carrying.{tells_submitted}
use Rattle.usb_io.proofs.writer.EndpointWrite.submit.Goals as goal

pub returns-clause-tells : goal.returns-clause-tells
returns-clause-tells g c =
    subst (λ (w : WriterState). TellsOn (g.B.Bus.calls.state c.args.bus.now) (g.B.Bus.calls.state c.send_buffer.new.bus) w c.send_buffer.new.self (submitted_calls c.send_buffer.result)) c.self.view_is
    (tells_submitted c.send_buffer.result g.B.Bus.calls c.args.bus.now c.send_buffer.new.bus _ c.send_buffer.new.self c.send_buffer.ensures.ok c.send_buffer.ensures.carries c.send_buffer.ensures.err)
