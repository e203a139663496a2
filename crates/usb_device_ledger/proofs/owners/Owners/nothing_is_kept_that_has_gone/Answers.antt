use Rattle.usb_device_ledger.proofs.KeptLemmas.{counted-each}
use Rattle.usb_device_ledger.proofs.owners.Owners.nothing_is_kept_that_has_gone.Goals as goal

pub returns : goal.returns
returns c = record {
  owned = λ i o at. rw (← c.self.view_is) (counted-each c.self.inside.claims.values c.self.inside.rows c.self.invariant.counts c.self.invariant.owned i o (rw (← c.self.view_is) at at));
  alive = rw (← c.self.view_is) c.self.invariant.alive;
}
