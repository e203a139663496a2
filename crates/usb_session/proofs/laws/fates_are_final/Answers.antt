use Rattle.usb_session.proofs.FateLemmas.{fates-final}
use Rattle.usb_session.proofs.HandleLemmas.{fates-of_scripts}
use Rattle.usb_session.proofs.laws.fates_are_final.Goals as goal

pub returns : goal.returns
returns c = record { lines = fates-final; scripts = fates-of_scripts }
