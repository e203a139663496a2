use Rattle.usb_session.proofs.WrittenLaw.{written-scripts}
use Rattle.usb_session.proofs.laws.writers_tell.Goals as goal

pub returns : goal.returns
returns c = record { written = written-scripts }
