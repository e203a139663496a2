use Rattle.usb_device.proofs.KeptLemmas.{stand-configured}
use Rattle.usb_device.proofs.device.Device.set_configuration.Goals as goal

pub returns-clause-handles : goal.returns-clause-handles
returns-clause-handles c = rw c.set_configuration.ensures.host (stand-configured c.args.host.now c.self.inside.key.serial c.args.value)

pub returns-clause-stands : goal.returns-clause-stands
returns-clause-stands c = (returns-clause-handles c).devices c.args.self.now c.requires.stands
