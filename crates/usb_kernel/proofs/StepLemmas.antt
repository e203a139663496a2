-- The table is kept: one lemma for each event.
use Rattle.std.proofs.Common.{◌≡◌, ℕ, ◌+◌, ◌-◌, ◌<◌, ◌≤◌, arith, List, ◌∷◌, length, set, get_or, Option, Some, None, true, false, refl, ap, sym, ◌∙◌, slice_get, subst, cond}
use Rattle.std.specs.Prelude.{position, is_none, IsSome, is_some, nat_le, nat_lt, ◌&&◌, ◌==◌}
use Rattle.std.specs.List.{All, sum_by}
use Rattle.std.proofs.lemmas.List.Sums.{sum_by-set, get_or-le-sum_by}
use Rattle.std.proofs.lemmas.List.Quantifiers.{position-Some}
use Rattle.std.proofs.lemmas.List.Elements.{All-set, All-get_or}
use Rattle.std.proofs.lemmas.Option.{slice_get-get_or, get_or_from_slice_get, slice_get_within, slice_get_past}
use Rattle.std.proofs.lemmas.Grind.{common_steps}
use Rattle.std.proofs.lemmas.Bool.{le-leb, lt-ltb, and_parts, eqb-true}
use Rattle.usb_kernel.specs.declared.event.Event.{Event}
use Rattle.usb_kernel.specs.declared.event.Event.TheVariants.{Packet, Ack, Fail, Reap}
use Rattle.usb_kernel.specs.declared.slot.TicketRow.{TicketRow}
use Rattle.usb_kernel.specs.declared.submission.Done.{Done}
use Rattle.usb_kernel.specs.declared.submission.TicketInfo.{TicketInfo}
use Rattle.usb_kernel.specs.Tickets.{Ticket, tickets}
use Rattle.usb_kernel.specs.Fates.{Fate, reap, finish, with_packet, with_ack, received}
use Rattle.usb_kernel.specs.Journal.{fate, oldest, at_ticket}
use Rattle.usb_kernel.specs.Completions.{buffer_for, done_if, reapable}
use Rattle.usb_kernel.specs.Steps.{after_packet, after_ack, after_fail, after_reap}
use Rattle.usb_kernel.specs.Timers.{deadline_of}
use Rattle.usb_kernel.specs.Info.{info_of, info_for}
use Rattle.usb_kernel.specs.Rows.{row_info, row_of, Agrees, HasItsBody, IsRoomy, is_open_row, row_with_packet, row_with_ack, owed, row_done}
use Rattle.usb_kernel.proofs.RowLemmas.{row-with_packet, row-with_ack}
use Rattle.usb_kernel.proofs.TableLemmas.{set-at_ticket, rows_from-same, position-is_open_row, slice_get-rows_from, length-rows_from}

-- what holds of each element holds of the one at a place
pub All-slice_get : {X : Type 0} (P : X → Type 0) (xs : List X) (i : ℕ) (x : X) → All P xs → slice_get xs i ≡ Some x → P x
All-slice_get P xs i x all at = subst P (get_or_from_slice_get xs i x x at) (all i x (slice_get_within xs i x at))

-- a row that has its buffer is of a ticket that was not reaped
pub not_reaped : (s : Ticket) (f : Fate) (r : TicketRow) → r ≡ row_of s f → IsSome r.buffer → f.reaped ≡ false
not_reaped s f r row waiting =
    let same : r.buffer ≡ cond f.reaped None (Some (buffer_for s.body s.capacity (received f))) = ap (λ (x : TicketRow). x.buffer) row in
    grind (arith, common_steps)

-- `Some` is not `None`
pub some_not_none : {X : Type 0} (o : Option X) → IsSome o → o ≡ None → ⊥
some_not_none o some none = grind (arith, common_steps)

-- what is known of the row of an open ticket that was found
pub record Found (past : List Event) (d e i : ℕ) (r : TicketRow) : Type 0 where
  pub endpoint : r.endpoint ≡ e
  pub unfinished : r.status ≡ None
  pub roomy : IsRoomy r
  pub ticket : Ticket
  pub at : slice_get (tickets past) i ≡ Some ticket
  pub row : r ≡ row_of ticket (fate past i)
  pub body : HasItsBody ticket
  pub first : oldest past d e ≡ Some i

pub found : (past : List Event) (rows : List TicketRow) (d e i : ℕ) (r : TicketRow) → Agrees past rows → position (is_open_row d e) rows ≡ Some i → r ≡ get_or rows i r → Found past d e i r
found past rows d e i r agrees at read =
    let p = position-Some (is_open_row d e) rows i r at in
    let here : slice_get rows i ≡ Some r = slice_get-get_or rows i r p.0 ∙ ap (λ (x : TicketRow). Some x) (sym read) in
    let t = slice_get-rows_from (tickets past) 0 i (fate past) r (rw (← agrees.table) here) in
    let tests : is_open_row d e r ≡ true = rw read p.1 in
    let parts : (r.device == d ≡ true) × ((r.endpoint == e && is_none r.status) ≡ true) = and_parts _ _ tests in
    let more : (r.endpoint == e ≡ true) × (is_none r.status ≡ true) = and_parts _ _ parts.1 in
    let z : 0 + i ≡ i = omega arith in
    record {
      endpoint = eqb-true _ _ more.0;
      unfinished = grind (arith, common_steps);
      roomy = rw read (All-get_or IsRoomy rows i r p.0 agrees.roomy);
      ticket = t.0;
      at = t.1;
      row = rw z at t.2;
      body = All-slice_get HasItsBody (tickets past) i t.0 agrees.bodies t.1;
      first = sym (position-is_open_row (tickets past) (fate past) d e) ∙ (rw (← agrees.table) at);
    }

-- an event that steps one ticket is kept by a write of its row
pub Agrees-set : (past : List Event) (event : Event) (rows : List TicketRow) (i : ℕ) (s : Ticket) (r : TicketRow) (step : Ticket → Fate → Fate) → Agrees past rows → slice_get (tickets past) i ≡ Some s → r ≡ row_of s (step s (fate past i)) → IsRoomy r → tickets (event ∷ past) ≡ tickets past → ((u : ℕ) → fate (event ∷ past) u ≡ at_ticket i step (tickets past) (fate past) u) → Agrees (event ∷ past) (set rows i r)
Agrees-set past event rows i s r step agrees at is roomy same fates =
    record {
      table = rw (agrees.table, same) (set-at_ticket (tickets past) i s r (fate past) step at is ∙ rows_from-same (tickets past) 0 (at_ticket i step (tickets past) (fate past)) (fate (event ∷ past)) (λ u a b. sym (fates u)));
      bodies = rw same agrees.bodies;
      roomy = All-set IsRoomy rows i r roomy agrees.roomy;
    }

pub Agrees-packet : (past later : List Event) (rows : List TicketRow) (d e i : ℕ) (b : List ℕ) (r next : TicketRow) → Agrees past rows → Found past d e i r → 128 ≤ e → next ≡ row_with_packet r b → IsRoomy next → later ≡ Packet d e b ∷ past → Agrees later (set rows i next)
Agrees-packet past later rows d e i b r next agrees f input is roomy so =
    rw so (Agrees-set past (Packet d e b) rows i f.ticket next (λ s. with_packet s b) agrees f.at
    (let s = f.ticket in
    let endpoint : s.endpoint ≡ e = sym (ap (λ (x : TicketRow). x.endpoint) f.row) ∙ f.endpoint in
    let unfinished : (fate past i).status ≡ None = sym (ap (λ (x : TicketRow). x.status) f.row) ∙ f.unfinished in
    let is_in = f.body.0 (rw endpoint input) in
    let kept = not_reaped s (fate past i) r f.row (f.roomy f.unfinished).0 in
    is ∙ rw f.row (row-with_packet s (fate past i) is_in.0 b is_in.1 unfinished kept))
    roomy refl (λ u. rw f.first refl))

-- with no open ticket there is no event
pub after_packet-none : (past : List Event) (d e : ℕ) (b : List ℕ) → oldest past d e ≡ None → after_packet past d e b ≡ past
after_packet-none past d e b none =
    rw none (elim (nat_le 128 e) as (λ v. cond (v && false) (Packet d e b ∷ past) past ≡ past) [ true ↦ refl | false ↦ refl ])

pub after_packet-some : (past : List Event) (d e i : ℕ) (b : List ℕ) → 128 ≤ e → oldest past d e ≡ Some i → after_packet past d e b ≡ Packet d e b ∷ past
after_packet-some past d e i b input first = rw (le-leb 128 e input, first) refl

pub Agrees-ack : (past later : List Event) (rows : List TicketRow) (d e i : ℕ) (r next : TicketRow) → Agrees past rows → Found past d e i r → e < 128 → next ≡ row_with_ack r → IsRoomy next → later ≡ Ack d e ∷ past → Agrees later (set rows i next)
Agrees-ack past later rows d e i r next agrees f output is roomy so =
    rw so (Agrees-set past (Ack d e) rows i f.ticket next with_ack agrees f.at
    (let s = f.ticket in
    let endpoint : s.endpoint ≡ e = sym (ap (λ (x : TicketRow). x.endpoint) f.row) ∙ f.endpoint in
    let unfinished : (fate past i).status ≡ None = sym (ap (λ (x : TicketRow). x.status) f.row) ∙ f.unfinished in
    let is_out = f.body.1 (rw endpoint output) in
    let kept = not_reaped s (fate past i) r f.row (f.roomy f.unfinished).0 in
    is ∙ rw f.row (row-with_ack s (fate past i) is_out.0 is_out.1 unfinished kept))
    roomy refl (λ u. rw f.first refl))

pub after_ack-none : (past : List Event) (d e : ℕ) → oldest past d e ≡ None → after_ack past d e ≡ past
after_ack-none past d e none =
    rw none (elim (nat_lt e 128) as (λ v. cond (v && false) (Ack d e ∷ past) past ≡ past) [ true ↦ refl | false ↦ refl ])

pub after_ack-some : (past : List Event) (d e i : ℕ) → e < 128 → oldest past d e ≡ Some i → after_ack past d e ≡ Ack d e ∷ past
after_ack-some past d e i output first = rw (lt-ltb e 128 output, first) refl

pub Agrees-fail : (past later : List Event) (rows : List TicketRow) (d e errno i : ℕ) (r next : TicketRow) → Agrees past rows → Found past d e i r → next ≡ record r { status = Some errno } → later ≡ Fail d e errno ∷ past → Agrees later (set rows i next)
Agrees-fail past later rows d e errno i r next agrees f is so =
    let none : (fate past i).status ≡ None = sym (ap (λ (x : TicketRow). x.status) f.row) ∙ f.unfinished in
    let same : next ≡ row_of f.ticket (finish errno (fate past i)) = is ∙ rw (f.row, none) refl in
    let done : next.status ≡ Some errno = ap (λ (x : TicketRow). x.status) is in
    rw so (Agrees-set past (Fail d e errno) rows i f.ticket next (λ s. finish errno) agrees f.at same (λ never. absurd (some_not_none next.status (rw done refl) never)) refl (λ u. rw f.first refl))

pub after_fail-none : (past : List Event) (d e errno : ℕ) → oldest past d e ≡ None → after_fail past d e errno ≡ past
after_fail-none past d e errno none = rw none refl

pub after_fail-some : (past : List Event) (d e errno i : ℕ) → oldest past d e ≡ Some i → after_fail past d e errno ≡ Fail d e errno ∷ past
after_fail-some past d e errno i first = rw first refl

-- where no row is open, there is no open ticket
pub oldest-none : (past : List Event) (rows : List TicketRow) (d e : ℕ) → Agrees past rows → position (is_open_row d e) rows ≡ None → oldest past d e ≡ None
oldest-none past rows d e agrees at = sym (position-is_open_row (tickets past) (fate past) d e) ∙ rw (← agrees.table) at

-- the places that are owed, after a write of a row
pub owed-set : (rows : List TicketRow) (i n : ℕ) (r next : TicketRow) → n ≡ sum_by owed rows → i < length rows → r ≡ get_or rows i r → (owed r ≤ n) × ((n - owed r) + owed next ≡ sum_by owed (set rows i next))
owed-set rows i n r next total inside read =
    let here : owed r ≡ owed (get_or rows i r) = ap owed read in
    (omega (arith, get_or-le-sum_by owed rows i r inside), omega (arith, sum_by-set owed rows i next r inside, get_or-le-sum_by owed rows i r inside))

-- the completion that a row gives is that of its ticket
row_done-row_of : (t : ℕ) (s : Ticket) (f : Fate) → row_done t (row_of s f) ≡ done_if t f s
row_done-row_of t s f = grind (arith, common_steps)

-- what is known of a row
pub record RowAt (past : List Event) (i : ℕ) (r : TicketRow) : Type 0 where
  pub ticket : Ticket
  pub at : slice_get (tickets past) i ≡ Some ticket
  pub row : r ≡ row_of ticket (fate past i)

pub row_at : (past : List Event) (rows : List TicketRow) (i : ℕ) (r : TicketRow) → Agrees past rows → i < length rows → r ≡ get_or rows i r → RowAt past i r
row_at past rows i r agrees inside read =
    let here : slice_get rows i ≡ Some r = slice_get-get_or rows i r inside ∙ ap (λ (x : TicketRow). Some x) (sym read) in
    let t = slice_get-rows_from (tickets past) 0 i (fate past) r (rw (← agrees.table) here) in
    let z : 0 + i ≡ i = omega arith in
    record { ticket = t.0; at = t.1; row = rw z at t.2 }

-- a row has the deadline of its ticket
pub deadline-row : (past : List Event) (t : ℕ) (r : TicketRow) → RowAt past t r → r.deadline ≡ deadline_of past t
deadline-row past t r a = rw (a.at, a.row) refl

pub reapable-row : (past : List Event) (t : ℕ) (r : TicketRow) → RowAt past t r → reapable past t ≡ row_done t r
reapable-row past t r a = rw (a.at, a.row) (sym (row_done-row_of t a.ticket (fate past t)))

pub reapable-none : (past : List Event) (rows : List TicketRow) (t : ℕ) → Agrees past rows → length rows ≤ t → reapable past t ≡ None
reapable-none past rows t agrees beyond =
    let few : length (tickets past) ≤ t = omega (arith, ap length agrees.table, length-rows_from (tickets past) 0 (fate past)) in
    rw (slice_get_past (tickets past) t few) refl

pub row_done-none : (t : ℕ) (r : TicketRow) → (is_some r.status && is_some r.buffer) ≡ false → row_done t r ≡ None
row_done-none t r neither = grind (arith, common_steps)

pub after_reap-none : (past : List Event) (t : ℕ) → reapable past t ≡ None → after_reap past t ≡ past
after_reap-none past t none = rw none refl

pub after_reap-some : (past : List Event) (t : ℕ) (done : Done) → reapable past t ≡ Some done → after_reap past t ≡ Reap t ∷ past
after_reap-some past t done some = rw some refl

pub Agrees-reap : (past later : List Event) (rows : List TicketRow) (i : ℕ) (r next : TicketRow) → Agrees past rows → RowAt past i r → IsSome r.status → next ≡ record r { buffer = None } → later ≡ Reap i ∷ past → Agrees later (set rows i next)
Agrees-reap past later rows i r next agrees a finished is so =
    let some : is_some (fate past i).status ≡ true = rw (← ap (λ (x : TicketRow). x.status) a.row) finished in
    let same : next ≡ row_of a.ticket (reap a.ticket (fate past i)) = is ∙ rw (a.row, some) refl in
    let kept : next.status ≡ r.status = ap (λ (x : TicketRow). x.status) is in
    let done : IsSome next.status = rw kept finished in
    rw so (Agrees-set past (Reap i) rows i a.ticket next reap agrees a.at same (λ none. absurd (some_not_none next.status done none)) refl (λ u. refl))

-- what is known of an open row, whatever the journal
pub record OpenRow (rows : List TicketRow) (d e i : ℕ) (r : TicketRow) : Type 0 where
  pub inside : i < length rows
  pub device : r.device ≡ d
  pub endpoint : r.endpoint ≡ e
  pub unfinished : r.status ≡ None
  pub roomy : IsRoomy r

pub open_row : (rows : List TicketRow) (d e i : ℕ) (r : TicketRow) → All IsRoomy rows → position (is_open_row d e) rows ≡ Some i → r ≡ get_or rows i r → OpenRow rows d e i r
open_row rows d e i r roomy at read =
    let p = position-Some (is_open_row d e) rows i r at in
    let tests : is_open_row d e r ≡ true = rw read p.1 in
    let parts : (r.device == d ≡ true) × ((r.endpoint == e && is_none r.status) ≡ true) = and_parts _ _ tests in
    let more : (r.endpoint == e ≡ true) × (is_none r.status ≡ true) = and_parts _ _ parts.1 in
    record { inside = p.0; device = eqb-true _ _ parts.0; endpoint = eqb-true _ _ more.0; unfinished = grind (arith, common_steps); roomy = rw read (All-get_or IsRoomy rows i r p.0 roomy) }

-- a row tells what its ticket does
row_info-row_of : (s : Ticket) (f : Fate) → row_info (row_of s f) ≡ info_for s f
row_info-row_of s f = grind (arith, common_steps)

pub info-row : (past : List Event) (t : ℕ) (r : TicketRow) → RowAt past t r → info_of past t ≡ Some (row_info r)
info-row past t r a = rw (a.at, a.row) (ap (λ (x : TicketInfo). Some x) (sym (row_info-row_of a.ticket (fate past t))))
