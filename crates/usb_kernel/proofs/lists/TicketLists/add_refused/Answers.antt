use Rattle.usb_kernel.proofs.AddLemmas.{listed-refused}
use Rattle.usb_kernel.proofs.lists.TicketLists.add_refused.Goals as goal

pub returns-clause-listed : goal.returns-clause-listed
returns-clause-listed c = rw c.push.ensures.records (listed-refused c.args.tickets.now.records.items c.args.self.now c.requires.listed _ c.requires.finished c.requires.reaped)
