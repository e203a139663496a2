use Rattle.std.proofs.Common.{ap, sym, subst, ◌∙◌}
use Rattle.usb_kernel.specs.WholePackets.{is_whole}
use Rattle.usb_io.specs.Along.{WritesAlong}
use Rattle.usb_io.specs.Writers.{WriterState, Writing, bytes_of}
use Rattle.usb_io.proofs.AlongLemmas.{writes-trans}
use Rattle.usb_io.proofs.Carrying.{carries_ended, tells_cut}
use Rattle.usb_io.proofs.writer.EndpointWrite.send_end.Goals as goal

pub returns-in-Ok-clause-carries : goal.returns-in-Ok-clause-carries
returns-in-Ok-clause-carries g c =
    carries_ended c.send_empty-in-Ok.result g.B.Bus.calls.state c.args.bus.now c.send.new.bus c.send_empty-in-Ok.new.bus c.args.self.now _ c.send.new.self.endpoint c.send_empty-in-Ok.new.self.endpoint c.in-Some.buffer.bytes c.self.view_is
    (ap bytes_of (sym c.in-Some.ensures.value)) (sym (c.if-is_whole.ensures.whole ∙ ap (is_whole c.self.inside.endpoint.maximum) c.len.ensures.len)) c.in-Ok.ensures.carries c.send_empty-in-Ok.ensures.carries

pub returns-in-Ok-clause-short : goal.returns-in-Ok-clause-short
returns-in-Ok-clause-short g c =
    tells_cut c.send_empty-in-Ok.result g.B.Bus.calls.state c.args.bus.now c.send.new.bus c.send_empty-in-Ok.new.bus c.args.self.now _ c.send.new.self c.send_empty-in-Ok.new.self c.in-Some.buffer.bytes c.self.view_is
    (ap bytes_of (sym c.in-Some.ensures.value)) (sym (c.if-is_whole.ensures.whole ∙ ap (is_whole c.self.inside.endpoint.maximum) c.len.ensures.len)) c.in-Ok.ensures.carries
    (ap (λ (x : Writing _). x.writer.size) c.in-Ok.ensures.ok) (ap (λ (x : Writing _). x.writer.buffer) c.in-Ok.ensures.ok) c.send_empty-in-Ok.ensures.err

pub returns-in-Ok-clause-goes : goal.returns-in-Ok-clause-goes
returns-in-Ok-clause-goes g c =
    subst (λ (w : WriterState). WritesAlong (g.B.Bus.calls.state c.args.bus.now) (g.B.Bus.calls.state c.send_empty-in-Ok.new.bus) w.endpoint c.send_empty-in-Ok.new.self.endpoint) c.self.view_is
    (writes-trans c.send.ensures.goes c.send_empty-in-Ok.ensures.goes)
