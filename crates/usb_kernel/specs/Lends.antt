-- What the records end as, where a `&mut` to one of them is returned.
use Rattle.std.specs.Prelude.{ℕ}
use Rattle.std.specs.Borrow.{Lends, Fml, MutBor}
use Rattle.std.specs.Vec.{with_item}
use Rattle.usb_kernel.specs.declared.record.Record.{Record}
use Rattle.usb_kernel.specs.declared.tickets.Tickets.{Tickets}
use Rattle.usb_kernel.specs.contracts.tickets.Tickets as tickets
use Rattle.usb_kernel.specs.contracts.record.Record as one

-- the records with that of a ticket replaced
abbrev pub with_record : Tickets → ℕ → Record → Tickets
with_record t n r = record t { records = with_item t.records n r }

-- once the borrow ends, the ticket has the last record that was written through it
abbrev pub LendsRecord : MutBor Tickets → ℕ → MutBor Record → Fml
LendsRecord t n r = Lends tickets.the_row one.the_row t r (with_record t.now n)
