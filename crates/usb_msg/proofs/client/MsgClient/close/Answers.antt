use Rattle.std.proofs.Common.{sym}
use Rattle.usb_device_endpoint.proofs.Frames.{Stands-other}
use Rattle.usb_msg.proofs.client.MsgClient.close.Goals as goal

pub close-requires-2 : goal.close-requires-2
close-requires-2 g c =
    let both = rw (← c.self.view_is) at c.requires.stand in
    record {
      stands = Stands-other (g.B.Bus.calls.state c.args.bus.now) (g.B.Bus.calls.state c.close.new.bus) c.self.inside.writer.endpoint.key c.self.inside.reader.endpoint c.close.ensures.others (λ same. both.apart (sym same)) both.inp;
    }
