use Rattle.std.proofs.Common.{map}
use Rattle.usb_device_ledger.specs.LedgerState.{host_ticket}
use Rattle.usb_device_ledger.proofs.KeptLemmas.{owned-each, lives-each}
use Rattle.usb_device_ledger.proofs.ledger.Ledger.nothing_is_kept_that_has_gone.Goals as goal

pub returns : goal.returns
returns c =
    let rows = c.self.inside.owners.rows in
    let tickets = map host_ticket c.self.inside.tickets.slots in
    record {
      owned = rw (← c.self.view_is) (owned-each rows tickets c.self.inside.owners.interfaces c.self.invariant c.nothing_is_kept_that_has_gone.ensures.owned);
      alive = rw (← c.self.view_is) (lives-each rows tickets c.self.invariant c.nothing_is_kept_that_has_gone.ensures.alive);
    }
