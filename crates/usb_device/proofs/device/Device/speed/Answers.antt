use Rattle.usb_device.proofs.KeptLemmas.{stand-speed}
use Rattle.usb_device.proofs.device.Device.speed.Goals as goal

pub returns-clause-handles : goal.returns-clause-handles
returns-clause-handles c = rw c.speed.ensures.host (stand-speed c.args.host.now c.self.inside.key.serial)

pub returns-clause-stands : goal.returns-clause-stands
returns-clause-stands c = (returns-clause-handles c).devices c.args.self.now c.requires.stands
