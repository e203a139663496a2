-- The lists of tickets, linked through their records.
use Rattle.std.specs.Prelude.{ℕ, ◌≡◌, ◌≤◌, List, set, map, length, Some, None, IsSome, slice_get, vec_capacity}
use Rattle.std.specs.List.{count_by}
use Rattle.usb_kernel.specs.declared.slot.TicketRow.{TicketRow}
use Rattle.usb_kernel.specs.declared.record.Ends.{Ends}
use Rattle.usb_kernel.specs.declared.record.Link.{Link}
use Rattle.usb_kernel.specs.declared.record.Record.{Record}
use Rattle.usb_kernel.specs.declared.record.Chain.TheVariants.{Queue, Unreaped}
use Rattle.usb_kernel.specs.declared.lists.TicketLists.{TicketLists}
use Rattle.usb_kernel.specs.Rows.{is_open_row, is_unreaped_row}
use Rattle.usb_kernel.specs.Unreaped.{finished_numbers}
use Rattle.usb_kernel.specs.Queues.{ends_at}
use Rattle.usb_kernel.specs.Chains.{IsChained, links, row_passes}

-- the rows of the records
abbrev pub rows_of : List Record → List TicketRow
rows_of records = map (λ (r : Record). r.row) records

-- the tickets that pass a test are linked by the neighbours in one of the two lists
abbrev pub IsQueue : List Record → ℕ → ℕ → Ends → Type 0
IsQueue records d e ends = IsChained (row_passes (is_open_row d e) records) (links Queue records) (length records) ends

-- the unfinished tickets of each endpoint are linked, and so are all that are not reaped, which are counted; the numbers of those
-- that are finished are listed, and each ticket that is not reaped has a place there
pub record AreListed (records : List Record) (lists : TicketLists) : Type 0 where
  pub queues : (d e : ℕ) → IsQueue records d e (ends_at lists.queues d e)
  pub unreaped : IsChained (row_passes is_unreaped_row records) (links Unreaped records) (length records) lists.unreaped
  pub count : lists.count ≡ count_by is_unreaped_row (rows_of records)
  pub finished : lists.finished.items ≡ finished_numbers (rows_of records)
  pub room : lists.count ≤ vec_capacity lists.finished

-- the record of ticket t was that of an open ticket, and next is its record at the same endpoint, not reaped, and with the same
-- neighbours
pub record GoesOn (records : List Record) (t : ℕ) (next : Record) : Type 0 where
  pub was : Record
  pub at : slice_get records t ≡ Some was
  pub unfinished : was.row.status ≡ None
  pub device : next.row.device ≡ was.row.device
  pub endpoint : next.row.endpoint ≡ was.row.endpoint
  pub waiting : IsSome was.row.buffer
  pub waits : IsSome next.row.buffer
  pub queue : next.queue ≡ was.queue
  pub unreaped : next.unreaped ≡ was.unreaped

-- the record of ticket t was finished and not reaped, and next is its record once it is reaped
pub record IsReaped (records : List Record) (t : ℕ) (next : Record) : Type 0 where
  pub was : Record
  pub at : slice_get records t ≡ Some was
  pub finished : IsSome was.row.status
  pub waiting : IsSome was.row.buffer
  pub still : next.row.status ≡ was.row.status
  pub reaped : next.row.buffer ≡ None
  pub queue : next.queue ≡ was.queue
  pub unreaped : next.unreaped ≡ was.unreaped

-- the record of an open ticket was written, and is next now, where these were the records before
pub record IsFollowing (lists : TicketLists) (t : ℕ) (next : Record) : Type 0 where
  pub records : List Record
  pub listed : AreListed records lists
  pub goes_on : GoesOn records t next

-- records is what the records were before ticket t was written, which was then listed and is now finished at endpoint d e, with
-- these neighbours
pub record IsFinishing (written : List Record) (lists : TicketLists) (t d e : ℕ) (link : Link) : Type 0 where
  pub records : List Record
  pub next : Record
  pub listed : AreListed records lists
  pub goes_on : GoesOn records t next
  pub finished : IsSome next.row.status
  pub is : written ≡ set records t next
  pub device : next.row.device ≡ d
  pub endpoint : next.row.endpoint ≡ e
  pub queue : next.queue ≡ link

-- the same where it is reaped
pub record IsReaping (written : List Record) (lists : TicketLists) (t : ℕ) (link : Link) : Type 0 where
  pub records : List Record
  pub next : Record
  pub listed : AreListed records lists
  pub reaped : IsReaped records t next
  pub is : written ≡ set records t next
  pub unreaped : next.unreaped ≡ link
