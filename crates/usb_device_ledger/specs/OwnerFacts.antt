-- What the type `Owners` (src/owners.rt: the claimed interfaces and the endpoints) keeps.
use Rattle.usb_device_ledger.specs.declared.owners.Owners.TheInside.{Inside}
use Rattle.usb_device_ledger.specs.OwnerRows.{CountsOf, AreOwned, AreAlive}

pub record AreCounted (o : Inside) : Type 0 where
  pub counts : CountsOf o.claims.values o.rows
  pub owned : AreOwned o.claims.values
  pub alive : AreAlive o.rows
