use Rattle.usb_trace.proofs.laws.check_written.Goals as goal

pub returns : goal.returns
returns c = record { yes = c.check_trace.ensures.complete (rw c.requires.written (c.written_is_trace.ensures.law c.requires.sized c.requires.directed)) }
