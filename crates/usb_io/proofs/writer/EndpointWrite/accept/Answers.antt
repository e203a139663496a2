use Rattle.std.proofs.Common.{ap, ◌∙◌}
use Rattle.usb_xfer.specs.BufferState.{BufferState}
use Rattle.usb_io.specs.Writers.{WriterState}
use Rattle.usb_io.proofs.Carrying.{carries_none, full-none, not-full}
use Rattle.usb_io.proofs.writer.EndpointWrite.accept.Goals as goal

pub returns-then-len-self-clause-carries : goal.returns-then-len-self-clause-carries
returns-then-len-self-clause-carries g c =
    carries_none (g.B.Bus.calls.state c.args.bus.now) c.self.inside.endpoint c.args.self.now.endpoint _ (ap (λ (w : WriterState). w.endpoint) c.self.view_is ∙ ap (λ (w : WriterState). w.endpoint) c.in_ok-buffer.ensures.rest)
    (full-none c.args.self.now.size _
    (not-full c.args.self.now c.in_ok-buffer.buffer c.extend_from_slice.new.self c.args.src.now c.min-n.result c.remaining_capacity.result c.len.result c.self.inside.transfer_size c.in_ok-buffer.ensures.buffer
    (ap (λ (b : BufferState). b.bytes) c.extend_from_slice.ensures.appended) c.min-n.ensures c.remaining_capacity.ensures.free c.len.ensures.len (ap (λ (w : WriterState). w.size) c.self.view_is ∙ ap (λ (w : WriterState). w.size) c.in_ok-buffer.ensures.rest) c.if-len-self.true))
