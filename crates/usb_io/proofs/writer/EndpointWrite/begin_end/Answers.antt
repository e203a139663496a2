use Rattle.std.proofs.Common.{ap, sym, subst, ◌∙◌, ◌≡◌, Bool, false}
use Rattle.usb_io.specs.Carried.{TellsOn, begun_calls}
use Rattle.usb_io.specs.Writers.{WriterState}
use Rattle.usb_io.proofs.Carrying.{tells_ended}
use Rattle.usb_io.proofs.writer.EndpointWrite.begin_end.Goals as goal

pub returns-in-Ok-clause-tells : goal.returns-in-Ok-clause-tells
returns-in-Ok-clause-tells g c =
    let begun : c.args.self.now.begun ≡ false = ap (λ (w : WriterState). w.begun) (sym c.self.view_is) ∙ c.if-self.false in
    subst (λ (w : WriterState). TellsOn (g.B.Bus.calls.state c.args.bus.now) (g.B.Bus.calls.state c.send_end.new.bus) c.args.self.now w (begun_calls c.args.self.now.begun)) (sym c.self-2.view_is)
    (subst (λ (b : Bool). TellsOn (g.B.Bus.calls.state c.args.bus.now) (g.B.Bus.calls.state c.send_end.new.bus) c.args.self.now c.send_end.new.self (begun_calls b)) (sym begun)
    (tells_ended g.B.Bus.calls c.args.bus.now c.send_end.new.bus c.args.self.now c.send_end.new.self c.in-Ok.ensures.ok c.in-Ok.ensures.carries))
