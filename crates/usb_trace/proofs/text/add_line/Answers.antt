use Rattle.usb_trace.proofs.TextRead.{stuck-order}
use Rattle.usb_trace.proofs.text.add_line.Goals as goal

pub returns-clause-stuck : goal.returns-clause-stuck
returns-clause-stuck c = λ is more.
    stuck-order c.args.read.now.phase c.in_ok-told.told c.args.bytes.now more c.in_ok-told.ensures.told c.in_ok-told.ensures.text (c.add.ensures.stuck is)
