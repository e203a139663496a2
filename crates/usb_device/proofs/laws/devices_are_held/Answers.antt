use Rattle.usb_device.proofs.HeldLaw.{devices_stay_held}
use Rattle.usb_device.proofs.laws.devices_are_held.Goals as goal

pub returns : goal.returns
returns c = devices_stay_held
