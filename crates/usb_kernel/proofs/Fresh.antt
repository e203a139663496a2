-- A ticket that was not submitted yet is fresh, and a submission adds a row.
use Rattle.std.proofs.Common.{◌≡◌, ◌≢◌, ℕ, ◌+◌, ◌≤◌, arith, List, [], ◌∷◌, ◌++◌, length, length-append, Option, suc, zero, Some, None, true, false, refl, ap, sym, ◌∙◌, slice_get, cond}
use Rattle.std.specs.Prelude.{◌==◌}
use Rattle.std.specs.List.{All}
use Rattle.std.proofs.lemmas.List.Elements.{All-append}
use Rattle.std.proofs.lemmas.Option.{slice_get_past, none-some}
use Rattle.std.proofs.lemmas.Bool.{ne_eqb, eq-eqb, le-leb, lt-leb}
use Rattle.usb_kernel.specs.declared.event.Event.{Event}
use Rattle.usb_kernel.specs.declared.event.Event.TheVariants.{Submit, Refuse, Packet, Ack, Echo, Fail, Discard, Reap, Unplug}
use Rattle.usb_kernel.specs.declared.slot.TicketRow.{TicketRow}
use Rattle.usb_kernel.specs.declared.submission.Submission.{Submission}
use Rattle.usb_kernel.specs.Tickets.{Ticket, tickets}
use Rattle.usb_kernel.specs.Fates.{Fate, fresh, refused_fate, with_packet, with_ack, finish, reap}
use Rattle.usb_kernel.specs.Journal.{fate, oldest_among, at_ticket, at_oldest, echo_comes, ack_comes, taken_of, oldest}
use Rattle.usb_kernel.specs.Submissions.{ticket_of, submit_event, refused_of, refuse_event}
use Rattle.usb_kernel.specs.Rows.{row_of, rows_from, Agrees, HasItsBody, IsRoomy}
use Rattle.usb_kernel.proofs.TableLemmas.{rows_from-append, rows_from-same, length-rows_from}

at_ticket-past : (t : ℕ) (step : Ticket → Fate → Fate) (ts : List Ticket) (f : ℕ → Fate) (u : ℕ) → slice_get ts u ≡ None → at_ticket t step ts f u ≡ f u
at_ticket-past t step ts f u none = rw none (elim (t == u) as (λ v. cond v (f u) (f u) ≡ f u) [ true ↦ refl | false ↦ refl ])

at_oldest-past : (o : Option ℕ) (step : Ticket → Fate → Fate) (ts : List Ticket) (f : ℕ → Fate) (u : ℕ) → slice_get ts u ≡ None → at_oldest o step ts f u ≡ f u
at_oldest-past None step ts f u none = refl
at_oldest-past (Some t) step ts f u none = at_ticket-past t step ts f u none

echo-past : (o p : Option ℕ) (d a i : ℕ) (ts : List Ticket) (f : ℕ → Fate) (u : ℕ) → slice_get ts u ≡ None → echo_comes o p d a i ts f u ≡ f u
echo-past None p d a i ts f u none = refl
echo-past (Some t) None d a i ts f u none = refl
echo-past (Some t) (Some j) d a i ts f u none =
    at_oldest-past (oldest_among ts (ack_comes d a ts f) d i) (λ s. with_packet s (taken_of (slice_get ts t) (f t))) ts (ack_comes d a ts f) u none ∙ at_oldest-past (oldest_among ts f d a) with_ack ts f u none

-- past the last ticket
pub fate-fresh : (past : List Event) (u : ℕ) → length (tickets past) ≤ u → fate past u ≡ fresh
fate-fresh [] u beyond = refl
fate-fresh (Submit t d e m body room deadline ∷ past) u beyond = fate-fresh past u (omega (arith, length-append {A = Ticket}))
fate-fresh (Refuse t d e m body room errno ∷ past) u beyond =
    let apart : length (tickets past) ≢ u = λ same. omega (arith, length-append {A = Ticket}) in
    rw (ne_eqb (length (tickets past)) u apart) (fate-fresh past u (omega (arith, length-append {A = Ticket})))
fate-fresh (Packet d e b ∷ past) u beyond = at_oldest-past (oldest_among (tickets past) (fate past) d e) (λ s. with_packet s b) (tickets past) (fate past) u (slice_get_past _ u beyond) ∙ fate-fresh past u beyond
fate-fresh (Ack d e ∷ past) u beyond = at_oldest-past (oldest_among (tickets past) (fate past) d e) with_ack (tickets past) (fate past) u (slice_get_past _ u beyond) ∙ fate-fresh past u beyond
fate-fresh (Echo d o i ∷ past) u beyond = echo-past (oldest past d o) (oldest past d i) d o i (tickets past) (fate past) u (slice_get_past _ u beyond) ∙ fate-fresh past u beyond
fate-fresh (Fail d e errno ∷ past) u beyond = at_oldest-past (oldest_among (tickets past) (fate past) d e) (λ s. finish errno) (tickets past) (fate past) u (slice_get_past _ u beyond) ∙ fate-fresh past u beyond
fate-fresh (Discard t ∷ past) u beyond = at_ticket-past t (λ s. finish 2) (tickets past) (fate past) u (slice_get_past _ u beyond) ∙ fate-fresh past u beyond
fate-fresh (Reap t ∷ past) u beyond = at_ticket-past t reap (tickets past) (fate past) u (slice_get_past _ u beyond) ∙ fate-fresh past u beyond
fate-fresh (Unplug d ∷ past) u beyond =
    let none : slice_get (tickets past) u ≡ None = slice_get_past _ u beyond in
    rw none (fate-fresh past u beyond)

All-one : {X : Type 0} (P : X → Type 0) (x : X) → P x → All P (x ∷ [])
All-one P x p zero d inside = p
All-one P x p (suc k) d inside = absurd (omega arith)

-- the body that an endpoint gives goes with its direction
pub HasItsBody-ticket_of : (s : Submission) → HasItsBody (ticket_of s)
HasItsBody-ticket_of s = (
  λ input. (s.buffer.requested, rw (le-leb 128 s.endpoint input) refl),
  λ output. (s.buffer.bytes, rw (lt-leb 128 s.endpoint output) refl),
)

-- a submission adds a row
pub Agrees-submit : (past : List Event) (rows : List TicketRow) (s : Submission) (t : ℕ) (next : TicketRow) → Agrees past rows → next ≡ row_of (ticket_of s) fresh → IsRoomy next → Agrees (submit_event t s ∷ past) (rows ++ next ∷ [])
Agrees-submit past rows s t next agrees is roomy =
    let z : 0 + length (tickets past) ≡ length (tickets past) = omega arith in
    let added = rows_from-append (tickets past) 0 (ticket_of s) (fate past) in
    let new = fate-fresh past (length (tickets past)) (omega arith) in
    let table : rows ++ next ∷ [] ≡ rows_from 0 (tickets past ++ ticket_of s ∷ []) (fate past) = rw (added, z, new, agrees.table, is) refl in
    record {
      table = table;
      bodies = All-append HasItsBody (tickets past) (ticket_of s ∷ []) agrees.bodies (All-one HasItsBody (ticket_of s) (HasItsBody-ticket_of s));
      roomy = All-append IsRoomy rows (next ∷ []) agrees.roomy (All-one IsRoomy next roomy);
    }

-- the number of tickets is that of the rows
pub length-rows : (past : List Event) (rows : List TicketRow) → Agrees past rows → length rows ≡ length (tickets past)
length-rows past rows agrees = ap length agrees.table ∙ length-rows_from (tickets past) 0 (fate past)

pub length_rows : (past : List Event) (rows : List TicketRow) → Agrees past rows → length rows ≡ length (tickets past)
length_rows past rows agrees = length-rows past rows agrees

pub All-none : {X : Type 0} (P : X → Type 0) → All P []
All-none P k d inside = absurd (omega arith)

-- before the first event
pub Agrees-none : Agrees [] []
unfolding rows_from
Agrees-none = record { table = refl; bodies = All-none HasItsBody; roomy = All-none IsRoomy }

-- a refused submission adds a row
pub Agrees-refuse : (past : List Event) (rows : List TicketRow) (s : Submission) (t errno : ℕ) (next : TicketRow) → Agrees past rows → next ≡ row_of (refused_of s) (refused_fate errno) → Agrees (refuse_event t s errno ∷ past) (rows ++ next ∷ [])
Agrees-refuse past rows s t errno next agrees is =
    let z : 0 + length (tickets past) ≡ length (tickets past) = omega arith in
    let added = rows_from-append (tickets past) 0 (refused_of s) (fate (refuse_event t s errno ∷ past)) in
    let others = rows_from-same (tickets past) 0 (fate past) (fate (refuse_event t s errno ∷ past)) (λ u a b. let apart : length (tickets past) ≢ u = (λ same. omega arith) in rw (ne_eqb (length (tickets past)) u apart) refl) in
    let table : rows ++ next ∷ [] ≡ rows_from 0 (tickets past ++ refused_of s ∷ []) (fate (refuse_event t s errno ∷ past)) =
    rw (added, z, eq-eqb (length (tickets past)) (length (tickets past)) refl, ← others, agrees.table, is) refl in
    let finished : next.status ≡ Some errno = ap (λ (x : TicketRow). x.status) is in
    record {
      table = table;
      bodies = All-append HasItsBody (tickets past) (refused_of s ∷ []) agrees.bodies (All-one HasItsBody (refused_of s) (HasItsBody-ticket_of s));
      roomy = All-append IsRoomy rows (next ∷ []) agrees.roomy (All-one IsRoomy next (λ none. absurd (none-some errno (sym none ∙ finished))));
    }

pub tickets-refuse : (past : List Event) (s : Submission) (t errno : ℕ) → length (tickets (refuse_event t s errno ∷ past)) ≡ length (tickets past) + 1
tickets-refuse past s t errno = omega (arith, length-append {A = Ticket})
