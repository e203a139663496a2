use Rattle.std.proofs.Common.{reverse}
use Rattle.usb_kernel.proofs.Deadlines.{keeps-event}
use Rattle.usb_kernel.proofs.journal.put.Goals as goal

pub returns-clause-timed : goal.returns-clause-timed
returns-clause-timed c = λ ds none kept. rw c.push_event.ensures.items (keeps-event (reverse c.args.journal.now.items) c.args.event ds none kept)
