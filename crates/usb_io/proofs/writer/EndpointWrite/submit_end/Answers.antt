use Rattle.std.proofs.Common.{subst, OnOk, OnErr, ◌∷◌, []}
use Rattle.usb_io.specs.Carried.{TellsOn, TellsShort}
use Rattle.usb_io.specs.Writers.{WriterState}
use Rattle.usb_io.specs.Writes.{Finish}
use Rattle.usb_io.proofs.Carrying.{tells_ended_ok}
use Rattle.usb_io.proofs.writer.EndpointWrite.submit_end.Goals as goal

pub returns-clause-tells : goal.returns-clause-tells
returns-clause-tells g c =
    subst (λ (w : WriterState). OnOk c.send_end.result (TellsOn (g.B.Bus.calls.state c.args.bus.now) (g.B.Bus.calls.state c.send_end.new.bus) w c.send_end.new.self (Finish ∷ []))) c.self.view_is
    (tells_ended_ok c.send_end.result g.B.Bus.calls c.args.bus.now c.send_end.new.bus _ c.send_end.new.self c.send_end.ensures.ok c.send_end.ensures.carries)

pub returns-clause-short : goal.returns-clause-short
returns-clause-short g c =
    subst (λ (w : WriterState). OnErr c.send_end.result (TellsShort (g.B.Bus.calls.state c.args.bus.now) (g.B.Bus.calls.state c.send_end.new.bus) w c.send_end.new.self)) c.self.view_is c.send_end.ensures.short
