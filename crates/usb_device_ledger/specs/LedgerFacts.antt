-- What is true of all ledgers.
use Rattle.std.specs.Prelude.{map}
use Rattle.usb_device_ledger.specs.declared.ledger.Ledger.TheInside.{Inside}
use Rattle.usb_device_ledger.specs.LedgerState.{Tied, host_ticket}

abbrev pub IsTied : Inside → Type 0
IsTied l = Tied l.owners.rows (map host_ticket l.tickets.slots)
