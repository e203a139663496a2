use Rattle.usb_live.proofs.Turns.{has_one}
use Rattle.usb_live.proofs.runs.feed.Goals as goal

pub returns : goal.returns
returns c = record { one = has_one _ _ _ _ c.requires.idle c.in-Ok.ensures.submitted.0 }
