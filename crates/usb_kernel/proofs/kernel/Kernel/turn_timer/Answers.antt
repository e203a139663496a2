use Rattle.std.proofs.Common.{arith, reverse}
use Rattle.usb_kernel.proofs.Completions.{tickets-turned}
use Rattle.usb_kernel.proofs.Kept.{past_is, clock_is}
use Rattle.usb_kernel.proofs.Gone.{gone-behind_turn}
use Rattle.usb_kernel.proofs.Acts.{acts-turn}
use Rattle.usb_kernel.proofs.kernel.Kernel.turn_timer.Goals as goal

pub invariant_of-self : goal.invariant_of-self
invariant_of-self g c =
    let inv = c.self.invariant in
    let past = reverse c.self.inside.journal.items in
    record {
      lawful = c.discard_due.ensures.lawful inv.lawful;
      acts = rw c.discard_due.ensures.journal (acts-turn c.self.inside.clock past inv.acts);
      gone = rw c.discard_due.ensures.journal (gone-behind_turn c.self.inside.clock past c.self.inside.devices.items inv.gone);
      agrees = c.discard_due.ensures.agrees;
      timed = c.discard_due.ensures.kept;
      owes = omega (arith, c.discard_due.ensures.places, inv.owes);
      space = omega (arith, c.discard_due.ensures.places, c.discard_due.ensures.len, c.discard_due.ensures.capacity, inv.owes, inv.space);
      four = rw (c.discard_due.ensures.journal, tickets-turned c.self.inside.clock past) (omega (arith, c.discard_due.ensures.capacity, inv.four));
      errnos = inv.errnos;
      places = inv.places;
    }

pub returns-clause-looks : goal.returns-clause-looks
returns-clause-looks g c = rw (clock_is c.self.inside c.self.view_is, past_is c.self.inside c.self.view_is) at c.discard_due.ensures.looks
