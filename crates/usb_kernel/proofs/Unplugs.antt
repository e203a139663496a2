-- An unplug finishes every open ticket of its device.
use Rattle.std.proofs.Common.{◌≡◌, ◌≢◌, ℕ, ◌+◌, ◌<◌, suc, zero, arith, length, get_or, None, List, [], ◌∷◌, map, Some, true, false, refl, ap, sym, ◌∙◌, slice_get, cond}
use Rattle.std.specs.Prelude.{◌==◌, ◌&&◌, is_none, is_some}
use Rattle.std.specs.List.{slice_index_or}
use Rattle.std.proofs.lemmas.List.Elements.{All-map}
use Rattle.std.proofs.lemmas.Option.{none-some}
use Rattle.std.proofs.lemmas.Bool.{eq-eqb, ne_eqb}
use Rattle.std.proofs.lemmas.Grind.{common_steps}
use Rattle.usb_kernel.specs.declared.event.Event.{Event}
use Rattle.usb_kernel.specs.declared.event.Event.TheVariants.{Unplug}
use Rattle.usb_kernel.specs.declared.slot.TicketRow.{TicketRow}
use Rattle.usb_kernel.specs.Tickets.{Ticket, tickets}
use Rattle.usb_kernel.specs.Fates.{Fate, unplug}
use Rattle.usb_kernel.specs.Journal.{fate}
use Rattle.usb_kernel.proofs.Discards.{not_none_when}
use Rattle.usb_kernel.specs.Rows.{row_of, rows_from, row_unplugged, Agrees, IsRoomy}

row_unplugged-row_of : (d : ℕ) (s : Ticket) (f : Fate) → row_unplugged d (row_of s f) ≡ row_of s (unplug d s f)
row_unplugged-row_of d s f = grind (arith, common_steps)

-- a step of every ticket is a map over the rows
map-rows_from : (step : Ticket → Fate → Fate) (change_row : TicketRow → TicketRow) → ((s : Ticket) (f : Fate) → change_row (row_of s f) ≡ row_of s (step s f)) → (ts : List Ticket) (k : ℕ) (f g : ℕ → Fate) → ((i : ℕ) (s : Ticket) → slice_get ts i ≡ Some s → g (k + i) ≡ step s (f (k + i))) → map change_row (rows_from k ts f) ≡ rows_from k ts g
unfolding rows_from
map-rows_from step change_row same [] k f g steps = refl
map-rows_from step change_row same (t ∷ ts) k f g steps =
    let z : k + 0 ≡ k = omega arith in
    let here : g k ≡ step t (f k) = rw z at (steps 0 t refl) in
    let first : change_row (row_of t (f k)) ≡ row_of t (g k) = same t (f k) ∙ ap (row_of t) (sym here) in
    let others = map-rows_from step change_row same ts (k + 1) f g (λ i s at. let e : (k + 1) + i ≡ k + suc i = omega arith in rw e (steps (suc i) s at)) in
    rw (first, others) refl

IsRoomy-unplugged : (d : ℕ) (r : TicketRow) → IsRoomy r → IsRoomy (row_unplugged d r)
IsRoomy-unplugged d r roomy =
    elim (r.device == d && is_none r.status) as (λ v. IsRoomy (cond v (record r { status = Some 108 }) r)) [ true ↦ λ never. absurd (none-some 108 (sym never)) | false ↦ roomy ]

pub agrees_unplug : (past : List Event) (rows : List TicketRow) (d : ℕ) → Agrees past rows → Agrees (Unplug d ∷ past) (map (row_unplugged d) rows)
agrees_unplug past rows d agrees = record {
  table = rw agrees.table (map-rows_from (unplug d) (row_unplugged d) (row_unplugged-row_of d) (tickets past) 0 (fate past) (fate (Unplug d ∷ past)) (λ i s at. let z : 0 + i ≡ i = omega arith in rw (z, at) refl));
  bodies = agrees.bodies;
  roomy = All-map IsRoomy (row_unplugged d) rows (λ k r inside. IsRoomy-unplugged d (slice_index_or rows k r) (agrees.roomy k r inside));
}

-- an open row of the device
pub unplugged-open : (d : ℕ) (r : TicketRow) → r.device ≡ d → r.status ≡ None → row_unplugged d r ≡ record r { status = Some 108 }
unplugged-open d r same none = rw (eq-eqb r.device d same, none) refl

-- a row of another device, and one that is finished
pub unplugged-other : (d : ℕ) (r : TicketRow) → (r.device ≢ d) → row_unplugged d r ≡ r
unplugged-other d r other = rw (ne_eqb r.device d other) refl

pub unplugged-finished : (d : ℕ) (r : TicketRow) → true ≡ is_some r.status → row_unplugged d r ≡ r
unplugged-finished d r some =
    rw (not_none_when r.status some) (elim (r.device == d) as (λ v. cond (v && false) (record r { status = Some 108 }) r ≡ r) [ true ↦ refl | false ↦ refl ])

-- there is a row at each place
pub row_there : (rows : List TicketRow) (i : ℕ) → i < length rows → (r : TicketRow) × (slice_get rows i ≡ Some r) × (r ≡ get_or rows i r)
row_there [] i inside = absurd (omega arith)
row_there (r ∷ rows) zero inside = (r, refl, refl)
row_there (r ∷ rows) (suc i) inside = row_there rows i (omega arith)
