use Rattle.usb_device.proofs.KeptLemmas.{beside-device_closed}
use Rattle.usb_device.proofs.device.Device.close.Goals as goal

pub returns-clause-handles : goal.returns-clause-handles
returns-clause-handles c = rw (c.close_device.ensures.closed, c.self.view_is) (beside-device_closed c.args.host.now c.args.self c.requires.stands)
