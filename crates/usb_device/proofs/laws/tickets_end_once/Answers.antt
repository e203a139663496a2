use Rattle.usb_device.proofs.EndLemmas.{ends_stay}
use Rattle.usb_device.proofs.laws.tickets_end_once.Goals as goal

pub returns : goal.returns
returns c = record { stay = ends_stay }
