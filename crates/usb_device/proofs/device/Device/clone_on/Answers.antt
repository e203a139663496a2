use Rattle.usb_device.proofs.KeptLemmas.{stand-device_cloned}
use Rattle.usb_device.proofs.device.Device.clone_on.Goals as goal

pub returns-clause-handles : goal.returns-clause-handles
returns-clause-handles c = rw (c.in_ok-clone_device.ensures.ok, c.self.view_is) (stand-device_cloned c.args.host.now c.args.self.now c.requires.stands)

pub returns-clause-stands : goal.returns-clause-stands
returns-clause-stands c = (returns-clause-handles c).devices c.args.self.now c.requires.stands
