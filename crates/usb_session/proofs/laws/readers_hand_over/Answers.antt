use Rattle.usb_session.proofs.HandedScripts.{handed-scripts}
use Rattle.usb_session.proofs.laws.readers_hand_over.Goals as goal

pub returns : goal.returns
returns c = record { handed = handed-scripts }
