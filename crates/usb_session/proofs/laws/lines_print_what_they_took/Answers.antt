use Rattle.usb_session.proofs.PrintedLaw.{scripts-print}
use Rattle.usb_session.proofs.laws.lines_print_what_they_took.Goals as goal

pub returns : goal.returns
returns c = record { printed = scripts-print }
