use Rattle.std.proofs.Common.{arith, reverse}
use Rattle.usb_kernel.proofs.Completions.{tickets-discard}
use Rattle.usb_kernel.proofs.Gone.{gone-behind_discard}
use Rattle.usb_kernel.proofs.Acts.{acts-discard}
use Rattle.usb_kernel.proofs.kernel.Kernel.discard_counted.Goals as goal

pub invariant_of-self : goal.invariant_of-self
invariant_of-self g c =
    let inv = c.self.invariant in
    let past = reverse c.self.inside.journal.items in
    record {
      lawful = c.discard_ticket.ensures.lawful inv.lawful;
      acts = rw c.discard_ticket.ensures.journal (acts-discard past c.args.ticket inv.acts);
      gone = rw c.discard_ticket.ensures.journal (gone-behind_discard past c.args.ticket c.self.inside.devices.items inv.gone);
      agrees = c.discard_ticket.ensures.agrees;
      timed = c.discard_ticket.ensures.kept;
      owes = omega (arith, c.discard_ticket.ensures.places, inv.owes);
      space = omega (arith, c.discard_ticket.ensures.places, c.discard_ticket.ensures.len, c.discard_ticket.ensures.capacity, inv.owes, inv.space);
      four = rw (c.discard_ticket.ensures.journal, tickets-discard past c.args.ticket) (omega (arith, c.discard_ticket.ensures.capacity, inv.four));
      errnos = inv.errnos;
      places = inv.places;
    }
