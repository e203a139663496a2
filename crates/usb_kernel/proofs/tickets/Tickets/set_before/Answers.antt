use Rattle.std.proofs.Common.{sym, arith}
use Rattle.usb_kernel.proofs.ChangedLemmas.{changed-here, changed-none}
use Rattle.usb_kernel.specs.Links.{with_before}
use Rattle.usb_kernel.proofs.tickets.Tickets.set_before.Goals as goal

pub returns-in_default-clause-records : goal.returns-in_default-clause-records
returns-in_default-clause-records g c = grind (arith, changed-none)

pub returns-clause-records : goal.returns-clause-records
returns-clause-records g c =
    let records = c.args.self.now.records.items in
    let here = changed-here (with_before c.args.chain c.args.before) records c.in-Some.ticket c.at_mut-record.result.now c.at_mut-record.ensures.record in
    rw (sym c.in-Some.ensures.ticket, c.set_link.ensures.link, c.link-link.ensures.link) (sym here)
