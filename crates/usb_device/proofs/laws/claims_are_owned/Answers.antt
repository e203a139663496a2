use Rattle.usb_device.proofs.OwnerLaw.{claims_stay_owned}
use Rattle.usb_device.proofs.laws.claims_are_owned.Goals as goal

pub returns : goal.returns
returns c = claims_stay_owned
