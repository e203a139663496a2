use Rattle.usb_io.proofs.CarriedLaws.{later_tells}
use Rattle.usb_io.proofs.laws.tickets_say_what_was_written.Goals as goal

pub returns-clause-later : goal.returns-clause-later
returns-clause-later c = later_tells
