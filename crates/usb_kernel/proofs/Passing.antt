-- A pass of a packet from one row to another is an echo.
use Rattle.std.proofs.Common.{Bool, ◌≡◌, ◌≢◌, ℕ, ◌+◌, ◌*◌, ◌<◌, ◌≤◌, arith, List, ◌∷◌, ◌++◌, length, length-append, inl, inr, min, set, get_or, Option, Some, None, true, false, refl, ap, sym, ◌∙◌, slice_get, cond, subst}
use Rattle.std.specs.Prelude.{◌==◌, if◌then◌else◌, position, is_some, IsSome, nat_le, nat_lt, ◌&&◌, ◌||◌}
use Rattle.std.specs.List.{All, sum_by}
use Rattle.std.proofs.lemmas.List.{length-set}
use Rattle.std.proofs.lemmas.List.Folds.{position_or_len-set}
use Rattle.std.proofs.lemmas.List.Quantifiers.{position-Some}
use Rattle.std.proofs.lemmas.Option.{slice_get_within, get_or_from_slice_get, same_Some, none-some}
use Rattle.std.proofs.lemmas.Grind.{common_steps}
use Rattle.std.proofs.lemmas.Bool.{cases_Bool, or_parts, le-leb, lt-ltb, ltb-false, leb-false, ne_eqb, false≢true}
use Rattle.usb_xfer.specs.BufferState.{BufferState}
use Rattle.usb_kernel.specs.declared.event.Event.{Event}
use Rattle.usb_kernel.specs.declared.event.Event.TheVariants.{Packet, Ack, Echo}
use Rattle.usb_kernel.specs.declared.event.Body.TheVariants.{Sent}
use Rattle.usb_kernel.specs.declared.slot.TicketRow.{TicketRow}
use Rattle.usb_kernel.specs.Tickets.{Ticket, tickets}
use Rattle.usb_kernel.specs.Fates.{Fate}
use Rattle.usb_kernel.specs.Journal.{fate, oldest, taken_of}
use Rattle.usb_kernel.specs.Steps.{after_echo}
use Rattle.usb_kernel.specs.Rows.{Agrees, IsRoomy, is_open_row, owed, row_of, row_with_ack, row_with_packet, row_with_bytes}
use Rattle.usb_kernel.specs.Passing.{StandsFirst, IsOpenOut, IsOpenIn, row_taken, passed}
use Rattle.usb_kernel.specs.declared.record.Record.{Record}
use Rattle.usb_kernel.specs.Listed.{GoesOn, rows_of}
use Rattle.usb_kernel.proofs.RowLemmas.{room_left}
use Rattle.usb_kernel.proofs.Places.{slice_get-set_same, slice_get-set_other}
use Rattle.usb_kernel.proofs.Unplugs.{row_there}
use Rattle.usb_kernel.proofs.StepLemmas.{Found, found, OpenRow, open_row, not_reaped, Agrees-packet, Agrees-ack}
use Rattle.usb_kernel.proofs.RecordLemmas.{blank, rows-length, row-at, row-is, rows-now, first-kept, goes_on-ack, goes_on-packet, freed-now}
use Rattle.usb_kernel.proofs.OpenLists.{open-ack_other}
use Rattle.usb_kernel.proofs.Echoes.{Agrees-echo, rows-apart, set_around}

-- without one of the two tickets there is no event
pub after_echo-none_out : (past : List Event) (d o i : ℕ) → oldest past d o ≡ None → after_echo past d o i ≡ past
after_echo-none_out past d o i none =
    rw none (elim (nat_lt o 128 && nat_le 128 i) as (λ v. cond (v && false && is_some (oldest past d i)) (Echo d o i ∷ past) past ≡ past) [ true ↦ refl | false ↦ refl ])

pub after_echo-none_in : (past : List Event) (d o i : ℕ) → oldest past d i ≡ None → after_echo past d o i ≡ past
after_echo-none_in past d o i none =
    rw none (elim (nat_lt o 128 && nat_le 128 i && is_some (oldest past d o)) as (λ v. cond (v && false) (Echo d o i ∷ past) past ≡ past) [ true ↦ refl | false ↦ refl ])

pub after_echo-some : (past : List Event) (d o i t j : ℕ) → o < 128 → 128 ≤ i → oldest past d o ≡ Some t → oldest past d i ≡ Some j → after_echo past d o i ≡ Echo d o i ∷ past
after_echo-some past d o i t j out into sends takes = rw (lt-ltb o 128 out, le-leb 128 i into, sends, takes) refl

-- the bytes that an acknowledgement takes of a ticket are those that it takes of its row
pub row_taken-row_of : (s : Ticket) (f : Fate) (bytes : List ℕ) → s.body ≡ Sent bytes → f.reaped ≡ false → taken_of (Some s) f ≡ row_taken (row_of s f)
row_taken-row_of s f bytes is_out kept =
    let counted : min (length bytes) (min (length bytes) (s.maximum * f.acks) + s.maximum) ≡ min (length bytes) (s.maximum * (f.acks + 1)) = omega arith in
    grind (arith, common_steps)

-- an acknowledged row has room for what comes
roomy-ack : (r : TicketRow) → IsOpenOut r → IsRoomy (row_with_ack r)
roomy-ack r is = grind (arith, common_steps)

-- a value that is there
some-of : {X : Type 0} (o : Option X) → IsSome o → (x : X) × (o ≡ Some x)
some-of None some = absurd (false≢true some)
some-of (Some x) some = (x, refl)

-- so has a row with a packet
roomy-whole : (r : TicketRow) (b : List ℕ) (buffer : BufferState) → IsOpenIn r → r.buffer ≡ Some buffer → length b ≤ r.maximum → r.maximum ≤ length b → r.count + length b < buffer.requested → IsRoomy (record r { count = r.count + length b; buffer = Some (record buffer { bytes = buffer.bytes ++ b }); status = None })
roomy-whole r b buffer is at below above short =
    let room = (is.1.1 is.1.0).1 is.0 buffer at in
    λ none. (
      refl,
      λ into x e.
          let same : x ≡ record buffer { bytes = buffer.bytes ++ b } = sym (same_Some (record buffer { bytes = buffer.bytes ++ b }) x e) in
          rw same (omega (arith, room.0, length-append buffer.bytes b), room_left r.count room.1.0 r.maximum buffer.requested (length b) room.1.1 below above short),
      λ out. absurd (omega (arith, out, is.0)),
    )

roomy-bytes : (r : TicketRow) (b : List ℕ) (buffer : BufferState) → IsOpenIn r → r.buffer ≡ Some buffer → length b ≤ r.maximum → IsRoomy (row_with_bytes r b buffer)
roomy-bytes r b buffer is at below =
    elim (cases_Bool (nat_lt (length b) r.maximum || nat_le buffer.requested (r.count + length b))) [
      | inl ends ↦ rw ends (λ none. absurd (none-some 0 (sym none)))
      | inr goes ↦ rw (goes, is.1.0) (roomy-whole r b buffer is at below (ltb-false (length b) r.maximum (or_parts _ _ goes).0) (leb-false buffer.requested (r.count + length b) (or_parts _ _ goes).1))
    ]

roomy-packet : (r : TicketRow) (b : List ℕ) → IsOpenIn r → IsRoomy (row_with_packet r b)
roomy-packet r b is =
    let buffer = some-of r.buffer (is.1.1 is.1.0).0 in
    elim (cases_Bool (nat_lt r.maximum (length b))) [
      | inl long ↦ rw long (λ none. absurd (none-some 75 (sym none)))
      | inr fits ↦ rw (fits, buffer.1) (roomy-bytes r b buffer.0 is buffer.1 (ltb-false r.maximum (length b) fits))
    ]

-- the open rows that an echo finds
first-row : (rows : List TicketRow) (d e at : ℕ) → All IsRoomy rows → position (is_open_row d e) rows ≡ Some at → (r : TicketRow) × (slice_get rows at ≡ Some r) × OpenRow rows d e at r × (position (is_open_row r.device r.endpoint) rows ≡ Some at)
first-row rows d e at roomy first =
    let there = row_there rows at (position-Some (is_open_row d e) rows at blank first).0 in
    let row = open_row rows d e at there.0 roomy first there.2 in
    (there.0, there.1, row, rw (row.device, row.endpoint) first)

pub sends-of : (rows : List TicketRow) (d o from : ℕ) → All IsRoomy rows → o < 128 → position (is_open_row d o) rows ≡ Some from → StandsFirst rows from IsOpenOut
sends-of rows d o from roomy out at =
    let r = first-row rows d o from roomy at in
    record { row = r.0; here = r.1; is = (omega (arith, r.2.endpoint, out), (r.2.unfinished, r.2.roomy)); first = r.3 }

pub takes-of : (rows : List TicketRow) (d i to : ℕ) → All IsRoomy rows → 128 ≤ i → position (is_open_row d i) rows ≡ Some to → StandsFirst rows to IsOpenIn
takes-of rows d i to roomy into at =
    let s = first-row rows d i to roomy at in
    record { row = s.0; here = s.1; is = (omega (arith, s.2.endpoint, into), (s.2.unfinished, s.2.roomy)); first = s.3 }

-- the ticket of an open IN row, once an acknowledgement came to an OUT ticket of its device
beside-ack : (past : List Event) (d o i t j : ℕ) (s : TicketRow) → oldest past d o ≡ Some t → t ≢ j → o < 128 → 128 ≤ i → Found past d i j s → Found (Ack d o ∷ past) d i j s
beside-ack past d o i t j s sends apart out into f =
    record {
      endpoint = f.endpoint;
      unfinished = f.unfinished;
      roomy = f.roomy;
      ticket = f.ticket;
      at = f.at;
      row = rw (sends, ne_eqb t j apart) f.row;
      body = f.body;
      first = ap (λ ts. slice_get ts 0) (open-ack_other past d o d i (λ device endpoint. absurd (omega (arith, endpoint, out, into)))) ∙ f.first;
    }

-- the rows after a pass, by those before it
pub passed-is : (rows : List TicketRow) (from to : ℕ) (r s : TicketRow) → slice_get rows from ≡ Some r → slice_get rows to ≡ Some s → passed rows from to ≡ set (set rows from (row_with_ack r)) to (row_with_packet s (row_taken r))
passed-is rows from to r s at there = rw (at, there) refl

-- a pass of a packet between the oldest tickets is an echo
pub Agrees-pass : (past : List Event) (rows : List TicketRow) (d o i from to : ℕ) → Agrees past rows → o < 128 → 128 ≤ i → position (is_open_row d o) rows ≡ Some from → position (is_open_row d i) rows ≡ Some to → Agrees (after_echo past d o i) (passed rows from to) × (after_echo past d o i ≡ Echo d o i ∷ past)
Agrees-pass past rows d o i from to agrees out into at_from at_to =
    let sends = sends-of rows d o from agrees.roomy out at_from in
    let takes = takes-of rows d i to agrees.roomy into at_to in
    let r = sends.row in
    let s = takes.row in
    let apart = rows-apart rows from to r s sends.here takes.here sends.is.0 takes.is.0 in
    let fr = found past rows d o from r agrees at_from (sym (get_or_from_slice_get rows from r r sends.here)) in
    let ft = found past rows d i to s agrees at_to (sym (get_or_from_slice_get rows to s s takes.here)) in
    let fs = beside-ack past d o i from to s fr.first apart out into ft in
    let acked = Agrees-ack past (Ack d o ∷ past) rows d o from r (row_with_ack r) agrees fr out refl (roomy-ack r sends.is) refl in
    let b = row_taken r in
    let both = Agrees-packet (Ack d o ∷ past) (Packet d i b ∷ (Ack d o ∷ past)) (set rows from (row_with_ack r)) d i to b s (row_with_packet s b) acked fs into refl (roomy-packet s b takes.is) refl in
    let sent = fr.body.1 (omega (arith, ap (λ (x : TicketRow). x.endpoint) fr.row, fr.endpoint, out)) in
    let kept = not_reaped fr.ticket (fate past from) r fr.row (fr.roomy fr.unfinished).0 in
    let same : taken_of (slice_get (tickets past) from) (fate past from) ≡ b = rw fr.at (row_taken-row_of fr.ticket (fate past from) sent.0 sent.1 kept ∙ ap row_taken (sym fr.row)) in
    let echo = Agrees-echo past (set (set rows from (row_with_ack r)) to (row_with_packet s b)) d o i from to fr.first ft.first (rw same both) in
    let event = after_echo-some past d o i from to out into fr.first ft.first in
    (rw (event, passed-is rows from to r s sends.here takes.here) echo, event)

-- a write of a row that passes no more than before
position-set : (p : TicketRow → Bool) (rows : List TicketRow) (i : ℕ) (r next : TicketRow) → slice_get rows i ≡ Some r → p next ≡ p r → position p (set rows i next) ≡ position p rows
position-set p rows i r next at same =
    let here : p next ≡ p (get_or rows i r) = same ∙ ap p (sym (get_or_from_slice_get rows i r r at)) in
    rw (position_or_len-set p rows i next r here, length-set rows i next) refl

-- a row of another endpoint
elsewhere : (d e : ℕ) (r : TicketRow) → r.endpoint ≢ e → is_open_row d e r ≡ false
elsewhere d e r other =
    rw (ne_eqb r.endpoint e other) (elim (r.device == d) as (λ v. (v && false) ≡ false) [ true ↦ refl | false ↦ refl ])

-- the sender gets its buffer back
pub given-back : (x w : Record) (acked : TicketRow) (o : Option BufferState) (sent : BufferState) → w ≡ record x { row = record acked { buffer = o } } → acked.buffer ≡ Some sent → record w { row = record w.row { buffer = Some sent } } ≡ record x { row = acked }
given-back x w acked o sent same some =
    ap (λ (r : Record). record r { row = record r.row { buffer = Some sent } }) same ∙ ap (λ b. record x { row = record acked { buffer = b } }) (sym some)

-- the records of a pass: x and z are those of the two tickets, acked and got are the rows that the two get, and lent is the one in
-- between
module _ (records : List Record) (from to : ℕ) (sends : StandsFirst (rows_of records) from IsOpenOut) (takes : StandsFirst (rows_of records) to IsOpenIn) (x : Record) (at : slice_get records from ≡ Some x) where
  pub sends-open : IsOpenOut x.row
  sends-open = subst IsOpenOut (row-is records from x at sends.row sends.here) sends.is

  pub from-first : position (is_open_row x.row.device x.row.endpoint) (rows_of records) ≡ Some from
  from-first = subst (λ (r : TicketRow). position (is_open_row r.device r.endpoint) (rows_of records) ≡ Some from) (row-is records from x at sends.row sends.here) sends.first

  pub goes_on-sent : (acked : TicketRow) → acked ≡ row_with_ack x.row → GoesOn records from (record x { row = acked })
  goes_on-sent acked is = goes_on-ack records from x at acked sends-open.1.0 sends-open.1.1 is

  pub sent-first : (acked : TicketRow) → acked ≡ row_with_ack x.row → position (is_open_row acked.device acked.endpoint) (rows_of records) ≡ Some from
  sent-first acked is = first-kept records from x at x.row.device x.row.endpoint (record x { row = acked }) refl refl from-first (goes_on-sent acked is)

  pub to-inside : to < length records
  to-inside = omega (arith, rows-length records, slice_get_within (rows_of records) to takes.row takes.here)

  module _ (lent z : Record) (there : slice_get (set records from lent) to ≡ Some z) where
    pub apart : from ≢ to
    apart = rows-apart (rows_of records) from to sends.row takes.row sends.here takes.here sends.is.0 takes.is.0

    pub taker-at : slice_get records to ≡ Some z
    taker-at = sym (slice_get-set_other records from to lent (λ same. apart (sym same))) ∙ there

    pub takes-open : IsOpenIn z.row
    takes-open = subst IsOpenIn (row-is records to z taker-at takes.row takes.here) takes.is

    module _ (acked : TicketRow) (is : acked ≡ row_with_ack x.row) where
      abbrev pub sent-records : List Record
      sent-records = set records from (record x { row = acked })

      pub taker-there : slice_get sent-records to ≡ Some z
      taker-there = slice_get-set_other records from to (record x { row = acked }) (λ same. apart (sym same)) ∙ taker-at

      pub goes_on-got : (got : TicketRow) (bytes : List ℕ) → got ≡ row_with_packet z.row bytes → GoesOn sent-records to (record z { row = got })
      goes_on-got got bytes gets = goes_on-packet sent-records to z taker-there bytes got takes-open.1.0 takes-open.1.1 gets

      to-first : position (is_open_row z.row.device z.row.endpoint) (rows_of sent-records) ≡ Some to
      to-first =
          let open_one : is_open_row z.row.device z.row.endpoint acked ≡ is_open_row z.row.device z.row.endpoint x.row =
          elsewhere z.row.device z.row.endpoint acked (λ same. absurd (omega (arith, same, (goes_on-sent acked is).endpoint, ap (λ (r : Record). r.row.endpoint) (same_Some (goes_on-sent acked is).was x (sym (goes_on-sent acked is).at ∙ at)), sends-open.0, takes-open.0)))
          ∙ sym (elsewhere z.row.device z.row.endpoint x.row (λ same. absurd (omega (arith, same, sends-open.0, takes-open.0)))) in
          rw (rows-now records from x at (record x { row = acked }))
          (position-set (is_open_row z.row.device z.row.endpoint) (rows_of records) from x.row acked (row-at records from x at) open_one
          ∙ subst (λ (r : TicketRow). position (is_open_row r.device r.endpoint) (rows_of records) ≡ Some to) (row-is records to z taker-at takes.row takes.here) takes.first)

      pub got-first : (got : TicketRow) (bytes : List ℕ) → got ≡ row_with_packet z.row bytes → position (is_open_row got.device got.endpoint) (rows_of sent-records) ≡ Some to
      got-first got bytes gets = first-kept sent-records to z taker-there z.row.device z.row.endpoint (record z { row = got }) refl refl to-first (goes_on-got got bytes gets)

      -- the last write gives the buffer back
      pub pass-records : (got back : Record) → back ≡ record x { row = acked } → set (set (set records from lent) to got) from back ≡ set sent-records to got
      pass-records got back same = set_around records from to lent got back apart ∙ ap (λ r. set (set records from r) to got) same

      pub sender-again : (got w : Record) → slice_get (set (set records from lent) to got) from ≡ Some w → w ≡ lent
      sender-again got w again =
          let inside : from < length records = slice_get_within records from x at in
          same_Some w lent (sym again ∙ (slice_get-set_other (set records from lent) to from got apart ∙ slice_get-set_same records from lent inside))

      -- the rows then, and what was freed
      pub pass-rows : (got : TicketRow) → got ≡ row_with_packet z.row (row_taken x.row) → rows_of (set sent-records to (record z { row = got })) ≡ passed (rows_of records) from to
      pass-rows got gets =
          rows-now sent-records to z taker-there (record z { row = got })
          ∙ (ap (λ rows. set rows to got) (rows-now records from x at (record x { row = acked }))
          ∙ (ap (λ r. set (set (rows_of records) from r) to got) is
          ∙ (ap (set (set (rows_of records) from (row_with_ack x.row)) to) gets
          ∙ sym (passed-is (rows_of records) from to x.row z.row (row-at records from x at) (row-at records to z taker-at)))))

      pub pass-freed : (got : TicketRow) (bytes : List ℕ) (m n : ℕ) → got ≡ row_with_packet z.row bytes → m ≡ (if is_some acked.status then 1 else 0) → n ≡ (if is_some got.status then 1 else 0) → sum_by owed (rows_of (set sent-records to (record z { row = got }))) + (m + n) ≡ sum_by owed (rows_of records)
      pass-freed got bytes m n gets ms ns =
          let one = freed-now records from x at (record x { row = acked }) (goes_on-sent acked is) in
          let two = freed-now sent-records to z taker-there (record z { row = got }) (goes_on-got got bytes gets) in
          let between = ap (sum_by owed) (rows-now records from x at (record x { row = acked })) in
          let after = ap (sum_by owed) (rows-now sent-records to z taker-there (record z { row = got })) in
          omega (arith, one, two, between, after, ms, ns)
