-- Framed readers follow their streams over each script.
use Rattle.usb_session.specs.Framed.{FramedScriptsFollow}
use Rattle.usb_session.proofs.HandleLemmas.{scripts-go_on}
use Rattle.usb_session.proofs.FramedBehind.{follow-by}

pub framed-scripts : FramedScriptsFollow
framed-scripts = follow-by scripts-go_on
