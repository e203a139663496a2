use Rattle.usb_device.proofs.KeptLemmas.{stand-detached}
use Rattle.usb_device.proofs.device.Device.detach_kernel_driver.Goals as goal

pub returns-clause-handles : goal.returns-clause-handles
returns-clause-handles c = rw c.detach.ensures.host (stand-detached c.args.host.now c.self.inside.key.serial c.args.interface)

pub returns-clause-stands : goal.returns-clause-stands
returns-clause-stands c = (returns-clause-handles c).devices c.args.self.now c.requires.stands
