use Rattle.usb_session.proofs.HandleLemmas.{scripts-go_on}
use Rattle.usb_session.proofs.laws.scripts_go_on.Goals as goal

pub returns : goal.returns
returns c = scripts-go_on
