-- A packet that passes from the row of an OUT ticket to that of an IN ticket.
use Rattle.std.specs.Prelude.{ℕ, ◌+◌, ◌-◌, ◌<◌, ◌≤◌, ◌≡◌, List, [], Option, Some, None, length, min, take, drop, set, slice_get, position}
use Rattle.usb_xfer.specs.BufferState.{BufferState}
use Rattle.usb_kernel.specs.declared.slot.TicketRow.{TicketRow}
use Rattle.usb_kernel.specs.Rows.{IsRoomy, is_open_row, row_with_ack, row_with_packet}

-- the row there is the oldest open one of its endpoint
pub record StandsFirst (rows : List TicketRow) (at : ℕ) (P : TicketRow → Type 0) : Type 0 where
  pub row : TicketRow
  pub here : slice_get rows at ≡ Some row
  pub is : P row
  pub first : position (is_open_row row.device row.endpoint) rows ≡ Some at

-- an open row of an OUT endpoint
abbrev pub IsOpenOut : TicketRow → Type 0
IsOpenOut r = (r.endpoint < 128) × ((r.status ≡ None) × IsRoomy r)

-- an open row of an IN endpoint
abbrev pub IsOpenIn : TicketRow → Type 0
IsOpenIn r = (128 ≤ r.endpoint) × ((r.status ≡ None) × IsRoomy r)

-- the bytes that the next acknowledgement of a row takes: up to the maximum of those that are left
abbrev pub row_taken : TicketRow → List ℕ
row_taken r = taken_from r r.buffer
  where
    taken_from : TicketRow → Option BufferState → List ℕ
    taken_from r None = []
    taken_from r (Some b) = take (min (length b.bytes) (r.count + r.maximum) - r.count) (drop r.count b.bytes)

-- the rows once the one is acknowledged, and the other has got the bytes that this took
abbrev pub passed : List TicketRow → ℕ → ℕ → List TicketRow
passed rows from to = passed_between rows from to (slice_get rows from) (slice_get rows to)
  where
    passed_between : List TicketRow → ℕ → ℕ → Option TicketRow → Option TicketRow → List TicketRow
    passed_between rows from to (Some r) (Some s) = set (set rows from (row_with_ack r)) to (row_with_packet s (row_taken r))
    passed_between rows from to _ _ = rows
