-- The rows of a table when the record of one ticket was reached.
use Rattle.std.proofs.Common.{◌≡◌, ℕ, ◌+◌, ◌<◌, ◌≤◌, List, length, set, get_or, Option, Some, None, slice_get, true, false, refl, sym, ap, ◌∙◌, subst, arith}
use Rattle.std.specs.Prelude.{Bool, position, is_some, IsSome, if◌then◌else◌}
use Rattle.std.specs.Option.{option_map}
use Rattle.std.specs.List.{All, sum_by}
use Rattle.std.proofs.lemmas.Option.{same_Some, slice_get_within, get_or_from_slice_get, slice_get-map}
use Rattle.std.proofs.lemmas.List.{set-get_or, map-set, length-map}
use Rattle.std.proofs.lemmas.List.Quantifiers.{position-Some}
use Rattle.std.proofs.lemmas.Bool.{and_parts}
use Rattle.std.proofs.lemmas.Grind.{common_steps}
use Rattle.usb_kernel.specs.declared.slot.TicketRow.{TicketRow}
use Rattle.usb_kernel.specs.declared.record.Record.{Record}
use Rattle.usb_kernel.specs.TableState.{TableState}
use Rattle.usb_kernel.specs.Rows.{IsRoomy, is_open_row, is_reapable_row, row_with_packet, row_with_ack, owed}
use Rattle.usb_kernel.specs.Listed.{GoesOn, IsReaped, rows_of}
use Rattle.usb_kernel.proofs.StepLemmas.{owed-set, OpenRow, open_row, All-slice_get}

-- the rows of a table, and those that its users see
pub seen_rows : {a b : TableState} → a ≡ b → a.rows ≡ b.rows
seen_rows same = ap (λ (t : TableState). t.rows) same

-- nothing is there
pub none_there : (o : Option ℕ) → is_some o ≡ false → o ≡ None
none_there o said = grind (arith, common_steps)

-- there are as many rows as records
pub rows-length : (records : List Record) → length (rows_of records) ≡ length records
rows-length records = length-map records (λ (r : Record). r.row)

-- the row of an open ticket is one of the table's
pub blank : TicketRow
blank = record { device = 0; endpoint = 0; maximum = 0; refused = false; count = 0; status = None; deadline = None; buffer = None }

pub found-inside : (records : List Record) (d e t : ℕ) → position (is_open_row d e) (rows_of records) ≡ Some t → t < length records
found-inside records d e t here =
    omega (arith, rows-length records, (position-Some (is_open_row d e) (rows_of records) t blank here).0)

-- a row that gets a packet or an acknowledgement stays at its endpoint, and keeps its buffer
kept-packet : (r : TicketRow) (b : List ℕ) → ((row_with_packet r b).device ≡ r.device) × ((row_with_packet r b).endpoint ≡ r.endpoint) × (is_some (row_with_packet r b).buffer ≡ is_some r.buffer)
kept-packet r b = (grind (arith, common_steps), grind (arith, common_steps), grind (arith, common_steps))

kept-ack : (r : TicketRow) → ((row_with_ack r).device ≡ r.device) × ((row_with_ack r).endpoint ≡ r.endpoint) × (is_some (row_with_ack r).buffer ≡ is_some r.buffer)
kept-ack r = (grind (arith, common_steps), grind (arith, common_steps), grind (arith, common_steps))

-- the places that an open row owes, once it was written and may be finished
owed-one : (r : TicketRow) (b : Option ℕ) → IsSome r.buffer → r.status ≡ b → owed r ≡ (if is_some b then 1 else 2)
owed-one r b waits is = grind (arith, common_steps)

-- a record was reached
module _ (records : List Record) (t : ℕ) (reached : Record) (at : slice_get records t ≡ Some reached) where
  pub row-at : slice_get (rows_of records) t ≡ Some reached.row
  row-at = slice_get-map (λ (r : Record). r.row) records t ∙ ap (option_map (λ (r : Record). r.row)) at

  pub row-read : reached.row ≡ get_or (rows_of records) t reached.row
  row-read = sym (get_or_from_slice_get (rows_of records) t reached.row reached.row row-at)

  pub row-inside : t < length (rows_of records)
  row-inside = slice_get_within (rows_of records) t reached.row row-at

  pub row-is : (row : TicketRow) → slice_get (rows_of records) t ≡ Some row → row ≡ reached.row
  row-is row here = same_Some row reached.row (sym here ∙ row-at)

  pub same-row : (r : Record) → slice_get records t ≡ Some r → reached ≡ r
  same-row r here = same_Some reached r (sym at ∙ here)

  -- it was not written
  pub set-same : set records t reached ≡ records
  set-same = subst (λ r. set records t r ≡ records) (get_or_from_slice_get records t reached reached at) (set-get_or records t reached)

  -- it was
  pub rows-now : (next : Record) → rows_of (set records t next) ≡ set (rows_of records) t next.row
  rows-now next = map-set (λ (r : Record). r.row) records t next

  pub roomy-here : All IsRoomy (rows_of records) → IsRoomy reached.row
  roomy-here roomy = All-slice_get IsRoomy (rows_of records) t reached.row roomy row-at

  pub open-here : (d e : ℕ) → All IsRoomy (rows_of records) → position (is_open_row d e) (rows_of records) ≡ Some t → OpenRow (rows_of records) d e t reached.row
  open-here d e roomy first = open_row (rows_of records) d e t reached.row roomy first row-read

  -- the oldest open ticket of an endpoint stays at it
  pub first-kept : (d e : ℕ) (next : Record) → reached.row.device ≡ d → reached.row.endpoint ≡ e → position (is_open_row d e) (rows_of records) ≡ Some t → GoesOn records t next → position (is_open_row next.row.device next.row.endpoint) (rows_of records) ≡ Some t
  first-kept d e next device endpoint first g =
      let was : g.was ≡ reached = same_Some g.was reached (sym g.at ∙ at) in
      let now_device : next.row.device ≡ d = g.device ∙ (ap (λ (r : Record). r.row.device) was ∙ device) in
      let now_endpoint : next.row.endpoint ≡ e = g.endpoint ∙ (ap (λ (r : Record). r.row.endpoint) was ∙ endpoint) in
      rw (now_device, now_endpoint) first

  pub first-next : (d e : ℕ) (next : Record) → All IsRoomy (rows_of records) → position (is_open_row d e) (rows_of records) ≡ Some t → GoesOn records t next → position (is_open_row next.row.device next.row.endpoint) (rows_of records) ≡ Some t
  first-next d e next roomy first g =
      let row = open-here d e roomy first in
      first-kept d e next row.device row.endpoint first g

  -- the open ticket goes on
  pub goes_on-packet : (b : List ℕ) (next : TicketRow) → reached.row.status ≡ None → IsRoomy reached.row → next ≡ row_with_packet reached.row b → GoesOn records t (record reached { row = next })
  goes_on-packet b next unfinished roomy is =
      let kept = kept-packet reached.row b in
      let waits = (roomy unfinished).0 in
      record {
        was = reached;
        at = at;
        unfinished = unfinished;
        device = rw is kept.0;
        endpoint = rw is kept.1;
        waiting = waits;
        waits = rw is (kept.2 ∙ waits);
        queue = refl;
        unreaped = refl;
      }

  pub goes_on-ack : (next : TicketRow) → reached.row.status ≡ None → IsRoomy reached.row → next ≡ row_with_ack reached.row → GoesOn records t (record reached { row = next })
  goes_on-ack next unfinished roomy is =
      let kept = kept-ack reached.row in
      let waits = (roomy unfinished).0 in
      record {
        was = reached;
        at = at;
        unfinished = unfinished;
        device = rw is kept.0;
        endpoint = rw is kept.1;
        waiting = waits;
        waits = rw is (kept.2 ∙ waits);
        queue = refl;
        unreaped = refl;
      }

  pub goes_on-fail : (errno : ℕ) (next : TicketRow) → reached.row.status ≡ None → IsRoomy reached.row → next ≡ record reached.row { status = Some errno } → GoesOn records t (record reached { row = next })
  goes_on-fail errno next unfinished roomy is =
      let waits = (roomy unfinished).0 in
      record {
        was = reached;
        at = at;
        unfinished = unfinished;
        device = rw is refl;
        endpoint = rw is refl;
        waiting = waits;
        waits = rw is waits;
        queue = refl;
        unreaped = refl;
      }

  pub is_reaped-done : (next : TicketRow) → is_reapable_row reached.row ≡ true → next ≡ record reached.row { buffer = None } → IsReaped records t (record reached { row = next })
  is_reaped-done next waits is =
      let both = and_parts (is_some reached.row.status) (is_some reached.row.buffer) waits in
      record {
        was = reached;
        at = at;
        finished = both.0;
        waiting = both.1;
        still = rw is refl;
        reaped = rw is refl;
        queue = refl;
        unreaped = refl;
      }

  -- what that frees
  pub freed-now : (g : Record) → GoesOn records t g → sum_by owed (set (rows_of records) t g.row) + (if is_some g.row.status then 1 else 0) ≡ sum_by owed (rows_of records)
  freed-now next g =
      let was : g.was ≡ reached = same_Some g.was reached (sym g.at ∙ at) in
      let waits : IsSome reached.row.buffer = rw (← was) g.waiting in
      let unfinished : reached.row.status ≡ None = rw (← was) g.unfinished in
      let two : owed reached.row ≡ 2 = owed-one reached.row None waits unfinished in
      let now = owed-one next.row next.row.status g.waits refl in
      let total = owed-set (rows_of records) t (sum_by owed (rows_of records)) reached.row next.row refl row-inside row-read in
      sums (is_some next.row.status) (owed next.row) (sum_by owed (rows_of records)) (sum_by owed (set (rows_of records) t next.row)) now (omega (arith, two, total.0)) (omega (arith, two, total.0, total.1))
    where
      sums : (b : Bool) (o n m : ℕ) → o ≡ (if b then 1 else 2) → 2 ≤ n → m + 2 ≡ n + o → m + (if b then 1 else 0) ≡ n
      sums true o n m is two total = omega (arith, is, total)
      sums false o n m is two total = omega (arith, is, total)
