use Rattle.usb_session.proofs.HandleLemmas.{served-handles, final-counted}
use Rattle.usb_session.proofs.laws.endpoints_are_served_in_order.Goals as goal

pub returns : goal.returns
returns c = record { handles = served-handles; count = final-counted }
