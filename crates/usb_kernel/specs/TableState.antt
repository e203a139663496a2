-- What the table of tickets is to a kernel.
use Rattle.std.specs.Prelude.{ℕ, Bool, List, is_some}
use Rattle.std.specs.BTreeMap.{is_at}
use Rattle.std.specs.Map.{lookup}
use Rattle.usb_kernel.specs.declared.record.Ends.{Ends}
use Rattle.usb_kernel.specs.declared.slot.TicketRow.{TicketRow}
use Rattle.usb_kernel.specs.Queues.{by_endpoint}

-- the rows by number, how many more there is room for, and the ends of the lists of unfinished tickets by device and endpoint
pub record TableState : Type 0 where
  pub rows : List TicketRow
  pub room : ℕ
  pub queues : List ((ℕ × ℕ) × Ends)

-- whether an endpoint has an entry there
abbrev pub has_entry : TableState → ℕ → ℕ → Bool
has_entry t d e = is_some (lookup (is_at (by_endpoint (d, e))) t.queues)
