-- The table that the kernel keeps beside its journal.
use Rattle.std.specs.Prelude.{ℕ, ◌+◌, ◌*◌, ◌<◌, ◌≤◌, ◌≡◌, Bool, List, [], ◌∷◌, ◌++◌, length, Option, Some, None, is_none, is_some, IsSome, min, nat_lt, nat_le, ◌==◌, ◌&&◌, ◌||◌, if◌then◌else◌}
use Rattle.std.specs.List.{All}
use Rattle.std.specs.Option.{ForSome, option_and_then}
use Rattle.usb_kernel.specs.declared.submission.Done.{Done}
use Rattle.usb_xfer.specs.BufferState.{BufferState}
use Rattle.usb_kernel.specs.declared.event.Event.{Event}
use Rattle.usb_kernel.specs.declared.event.Body.TheVariants.{Wanted, Sent}
use Rattle.usb_kernel.specs.declared.slot.TicketRow.{TicketRow}
use Rattle.usb_kernel.specs.Tickets.{Ticket, tickets}
use Rattle.usb_kernel.specs.Fates.{Fate, count_of, received}
use Rattle.usb_kernel.specs.Journal.{fate}
use Rattle.usb_kernel.specs.Completions.{buffer_for}
use Rattle.usb_kernel.specs.declared.submission.TicketInfo.{TicketInfo}

-- the row of a ticket
abbrev pub row_of : Ticket → Fate → TicketRow
row_of s f =
    record {
      device = s.device;
      endpoint = s.endpoint;
      maximum = s.maximum;
      refused = s.refused;
      count = count_of s f;
      status = f.status;
      deadline = s.deadline;
      buffer = if f.reaped then None else Some (buffer_for s.body s.capacity (received f));
    }

unfoldable pub rows_from : ℕ → List Ticket → (ℕ → Fate) → List TicketRow
rows_from k [] fates = []
rows_from k (s ∷ ss) fates = row_of s (fates k) ∷ rows_from (k + 1) ss fates

abbrev pub table_of : List Event → List TicketRow
table_of past = rows_from 0 (tickets past) (fate past)

-- an open ticket has its buffer; an open IN ticket wants whole packets more, and an open OUT ticket counts bytes that it has
abbrev pub IsRoomy : TicketRow → Type 0
IsRoomy r =
    r.status ≡ None →
    IsSome r.buffer
    × (128 ≤ r.endpoint → ForSome r.buffer (λ b. (length b.bytes ≡ r.count) × ((more : ℕ) × (r.count + (more + 1) * r.maximum ≡ b.requested))))
    × (r.endpoint < 128 → ForSome r.buffer (λ b. r.count ≤ length b.bytes))

-- the body goes with the direction of the endpoint
abbrev pub HasItsBody : Ticket → Type 0
HasItsBody s = (128 ≤ s.endpoint → (n : ℕ) × (s.body ≡ Wanted n)) × (s.endpoint < 128 → (bytes : List ℕ) × (s.body ≡ Sent bytes))

-- the table is what the journal says
pub record Agrees (past : List Event) (rows : List TicketRow) : Type 0 where
  pub table : rows ≡ table_of past
  pub bodies : All HasItsBody (tickets past)
  pub roomy : All IsRoomy rows

-- the places in the journal that a ticket may still need: for its discard and for its reap
abbrev pub owed : TicketRow → ℕ
owed r = if is_none r.buffer then 0 else (if is_none r.status then 2 else 1)

-- whether a row is an open ticket of the endpoint
abbrev pub is_open_row : ℕ → ℕ → TicketRow → Bool
is_open_row d e r = r.device == d && (r.endpoint == e && is_none r.status)

-- whether a row is finished and not reaped
abbrev pub is_reapable_row : TicketRow → Bool
is_reapable_row r = is_some r.status && is_some r.buffer

-- a row with the bytes of a packet
abbrev pub row_with_bytes : TicketRow → List ℕ → BufferState → TicketRow
row_with_bytes r b buffer =
    record r {
      count = r.count + length b;
      buffer = Some (record buffer { bytes = buffer.bytes ++ b });
      status = if nat_lt (length b) r.maximum || nat_le buffer.requested (r.count + length b) then Some 0 else r.status;
    }

-- a row that gets a packet
abbrev pub row_with_packet : TicketRow → List ℕ → TicketRow
row_with_packet r b =
    if nat_lt r.maximum (length b) then record r { status = Some 75 }
    else row_taking r b r.buffer
  where
    row_taking : TicketRow → List ℕ → Option BufferState → TicketRow
    row_taking r b None = r
    row_taking r b (Some buffer) = row_with_bytes r b buffer

-- a row whose count is n, where its buffer has len bytes: finished once all are counted
abbrev pub row_with_count : TicketRow → ℕ → ℕ → TicketRow
row_with_count r len n = record r { count = n; status = if nat_le len n then Some 0 else r.status }

-- a row that gets an acknowledgement
abbrev pub row_with_ack : TicketRow → TicketRow
row_with_ack r = row_acked r r.buffer
  where
    row_acked : TicketRow → Option BufferState → TicketRow
    row_acked r None = r
    row_acked r (Some b) = row_with_count r (length b.bytes) (min (length b.bytes) (r.count + r.maximum))

-- a row when a device goes
abbrev pub row_unplugged : ℕ → TicketRow → TicketRow
row_unplugged d r = if r.device == d && is_none r.status then record r { status = Some 108 } else r

-- the completion that a row gives
abbrev pub row_done : ℕ → TicketRow → Option Done
row_done t r =
    option_and_then (λ errno. option_and_then (λ b. Some (record { ticket = t; status = errno; refused = r.refused; count = r.count; buffer = b })) r.buffer) r.status

-- whether a row is not reaped
abbrev pub is_unreaped_row : TicketRow → Bool
is_unreaped_row r = is_some r.buffer

-- what a row tells
abbrev pub row_info : TicketRow → TicketInfo
row_info r = record { device = r.device; endpoint = r.endpoint; status = r.status; refused = r.refused; reaped = is_none r.buffer; count = r.count }
