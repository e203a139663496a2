-- What stands at the front of an endpoint, as the rows tell it.
use Rattle.std.proofs.Common.{◌≡◌, ℕ, ◌+◌, ◌<◌, arith, List, [], ◌∷◌, length, Option, Some, None, true, false, refl, ap, sym, ◌∙◌, cond, map, slice_get, get_or}
use Rattle.std.specs.Prelude.{position, filter, nat_lt}
use Rattle.std.specs.Option.{option_and_then}
use Rattle.std.specs.List.{count_by, enumerate_from}
use Rattle.std.proofs.lemmas.Bool.{lt-ltb}
use Rattle.std.proofs.lemmas.Option.{none-some, get_or_from_slice_get, slice_get-get_or}
use Rattle.std.proofs.lemmas.List.Quantifiers.{position-Some}
use Rattle.std.proofs.lemmas.Grind.{common_steps}
use Rattle.usb_kernel.specs.declared.event.Event.{Event}
use Rattle.usb_kernel.specs.declared.slot.TicketRow.{TicketRow}
use Rattle.usb_kernel.specs.Tickets.{Ticket, tickets}
use Rattle.usb_kernel.specs.Fates.{Fate}
use Rattle.usb_kernel.specs.Journal.{fate, oldest, is_open, open_tickets, taken_of}
use Rattle.usb_kernel.specs.Rows.{Agrees, is_open_row, row_of, rows_from}
use Rattle.usb_kernel.specs.Passing.{row_taken}
use Rattle.usb_kernel.specs.Fronts.{front_packet, front_maximum, front_row}
use Rattle.usb_kernel.proofs.TableLemmas.{position-is_open_row}
use Rattle.usb_kernel.proofs.StepLemmas.{Found, found, not_reaped}
use Rattle.usb_kernel.proofs.Passing.{row_taken-row_of}

pub position-oldest : (past : List Event) (rows : List TicketRow) (d e : ℕ) → Agrees past rows → position (is_open_row d e) rows ≡ oldest past d e
position-oldest past rows d e agrees = rw agrees.table (position-is_open_row (tickets past) (fate past) d e)

-- the row of the oldest open ticket, if there is one, is that of a ticket that was found
pub front-found : (past : List Event) (rows : List TicketRow) (d e : ℕ) (r : TicketRow) → Agrees past rows → front_row rows d e ≡ Some r → (i : ℕ) × Found past d e i r
front-found past rows d e r agrees is = at (position (is_open_row d e) rows) refl is
  where
    at : (o : Option ℕ) → position (is_open_row d e) rows ≡ o → option_and_then (slice_get rows) o ≡ Some r → (i : ℕ) × Found past d e i r
    at None none some = absurd (none-some r some)
    at (Some i) here some = (i, found past rows d e i r agrees here (sym (get_or_from_slice_get rows i r r some)))

-- and none where no ticket is open
pub front-none : (past : List Event) (rows : List TicketRow) (d e : ℕ) → Agrees past rows → front_row rows d e ≡ None → oldest past d e ≡ None
front-none past rows d e agrees none = at (position (is_open_row d e) rows) refl none
  where
    at : (o : Option ℕ) → position (is_open_row d e) rows ≡ o → option_and_then (slice_get rows) o ≡ None → oldest past d e ≡ None
    at None is empty = sym (position-oldest past rows d e agrees) ∙ is
    at (Some i) is empty =
        let p = position-Some (is_open_row d e) rows i blank is in
        absurd (none-some (get_or rows i blank) (sym empty ∙ slice_get-get_or rows i blank p.0))
      where
        blank : TicketRow
        blank = record { device = 0; endpoint = 0; maximum = 0; refused = false; count = 0; status = None; deadline = None; buffer = None }

pub front_maximum-none : (past : List Event) (d e : ℕ) → oldest past d e ≡ None → front_maximum past d e ≡ None
front_maximum-none past d e none = rw none refl

pub front_maximum-found : (past : List Event) (d e i : ℕ) (r : TicketRow) → Found past d e i r → front_maximum past d e ≡ Some r.maximum
front_maximum-found past d e i r f = rw (f.first, f.at, f.row) refl

pub front_packet-in : (past : List Event) (d e : ℕ) → nat_lt e 128 ≡ false → front_packet past d e ≡ None
front_packet-in past d e input = rw input refl

pub front_packet-none : (past : List Event) (d e : ℕ) → oldest past d e ≡ None → front_packet past d e ≡ None
front_packet-none past d e none =
    rw none (elim (nat_lt e 128) as (λ v. ◌≡◌ {A = Option (List ℕ)} (cond v None None) None) [ true ↦ refl | false ↦ refl ])

pub front_packet-found : (past : List Event) (d e i : ℕ) (r : TicketRow) → e < 128 → Found past d e i r → front_packet past d e ≡ Some (row_taken r)
front_packet-found past d e i r out f =
    let here : f.ticket.endpoint ≡ e = sym (ap (λ (x : TicketRow). x.endpoint) f.row) ∙ f.endpoint in
    let body = f.body.1 (omega (arith, here)) in
    let kept = not_reaped f.ticket (fate past i) r f.row (f.roomy f.unfinished).0 in
    let taken : taken_of (Some f.ticket) (fate past i) ≡ row_taken r =
    row_taken-row_of f.ticket (fate past i) body.0 body.1 kept ∙ ap row_taken (sym f.row) in
    rw (lt-ltb e 128 out, f.first, f.at) (ap (λ (b : List ℕ). Some b) taken)

count-open : (ts : List Ticket) (k : ℕ) (f : ℕ → Fate) (d e : ℕ) → count_by (is_open_row d e) (rows_from k ts f) ≡ length (map (λ p. p.0) (filter (is_open f d e) (enumerate_from k ts)))
unfolding rows_from
count-open [] k f d e = refl
count-open (t ∷ ts) k f d e =
    let others = count-open ts (k + 1) f d e in
    let same : is_open_row d e (row_of t (f k)) ≡ is_open f d e (k, t) = refl in
    grind (arith, common_steps)

-- the open rows are counted
pub count-tickets : (past : List Event) (rows : List TicketRow) (d e : ℕ) → Agrees past rows → count_by (is_open_row d e) rows ≡ length (open_tickets past d e)
count-tickets past rows d e agrees = rw agrees.table (count-open (tickets past) 0 (fate past) d e)
