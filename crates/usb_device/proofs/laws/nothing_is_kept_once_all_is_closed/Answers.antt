use Rattle.usb_device.proofs.ClosedLaw.{closed_is_empty}
use Rattle.usb_device.proofs.laws.nothing_is_kept_once_all_is_closed.Goals as goal

pub returns : goal.returns
returns c = closed_is_empty
