use Rattle.std.proofs.Common.{false}
use Rattle.usb_device.proofs.IntoLemmas.{claimed_closed}
use Rattle.usb_device.proofs.KeptLemmas.{beside-device}
use Rattle.usb_device.proofs.device.Device.into_interface.Goals as goal

pub returns-clause-stands : goal.returns-clause-stands
returns-clause-stands c =
    let claimed = c.claim_interface-claimed in
    claimed_closed c.args.host.now claimed.new.host c.close.new.host c.args.self c.args.interface false claimed.result claimed.ensures.claims claimed.ensures.stands c.close.ensures.closed

pub returns-clause-handles : goal.returns-clause-handles
returns-clause-handles c = beside-device c.args.host.now c.claim_interface-claimed.new.host c.close.new.host c.args.self c.claim_interface-claimed.ensures.handles c.close.ensures.handles
