use Rattle.usb_session.proofs.FramedScripts.{framed-scripts}
use Rattle.usb_session.proofs.laws.framed_readers_follow.Goals as goal

pub returns : goal.returns
returns c = record { framed = framed-scripts }
