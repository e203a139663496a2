use Rattle.usb_device.proofs.KeptLemmas.{stand-setting}
use Rattle.usb_device.proofs.device.Interface.set_alt_setting.Goals as goal

pub returns-clause-handles : goal.returns-clause-handles
returns-clause-handles c = rw c.set_alt_setting.ensures.host (stand-setting c.args.host.now c.self.inside.key.serial c.args.setting)

pub returns-clause-stands : goal.returns-clause-stands
returns-clause-stands c = (returns-clause-handles c).interfaces c.args.self.now c.requires.stands
