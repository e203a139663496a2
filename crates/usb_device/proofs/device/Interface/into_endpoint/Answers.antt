use Rattle.usb_device.proofs.IntoLemmas.{opened_closed}
use Rattle.usb_device.proofs.KeptLemmas.{beside-interface}
use Rattle.usb_device.proofs.device.Interface.into_endpoint.Goals as goal

pub returns-clause-stands : goal.returns-clause-stands
returns-clause-stands g c =
    let opened = c.endpoint-opened in
    opened_closed opened.new.host c.close.new.host c.args.self.key opened.result opened.ensures.stands c.close.ensures.closed

pub returns-clause-handles : goal.returns-clause-handles
returns-clause-handles g c = beside-interface c.args.host.now c.endpoint-opened.new.host c.close.new.host c.args.self.key c.endpoint-opened.ensures.handles c.close.ensures.handles
