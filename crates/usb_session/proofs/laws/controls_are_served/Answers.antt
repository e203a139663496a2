use Rattle.usb_session.proofs.ControlsLaw.{scripts-serve_controls}
use Rattle.usb_session.proofs.laws.controls_are_served.Goals as goal

pub returns : goal.returns
returns c = record { controls = scripts-serve_controls }
