use Rattle.std.proofs.Common.{◌≡◌, ℕ, ◌+◌, List, [], ◌∷◌, refl, ◌∙◌}
use Rattle.std.specs.Prelude.{position, is_some, ◌&&◌, not}
use Rattle.std.proofs.lemmas.Iterator.Adapters.{position_from-zero}
use Rattle.std.proofs.lemmas.Grind.{common_steps}
use Rattle.std.proofs.Common.{arith}
use Rattle.usb_kernel.specs.declared.event.Event.{Event}
use Rattle.usb_kernel.specs.declared.slot.TicketRow.{TicketRow}
use Rattle.std.specs.List.{count_by, enumerate_from}
use Rattle.usb_kernel.specs.Tickets.{Ticket, tickets}
use Rattle.usb_kernel.specs.Fates.{Fate}
use Rattle.usb_kernel.specs.Journal.{fate}
use Rattle.usb_kernel.specs.Completions.{is_reapable, lowest}
use Rattle.usb_kernel.specs.Info.{is_unreaped, unreaped}
use Rattle.usb_kernel.specs.Rows.{row_of, rows_from, Agrees, is_reapable_row, is_unreaped_row}
use Rattle.usb_kernel.proofs.TableLemmas.{position-rows}

is_reapable_row-row_of : (s : Ticket) (f : Fate) → is_reapable_row (row_of s f) ≡ (is_some f.status && not f.reaped)
is_reapable_row-row_of s f = grind (arith, common_steps)

pub lowest_position : (past : List Event) (rows : List TicketRow) → Agrees past rows → position is_reapable_row rows ≡ lowest past
lowest_position past rows agrees =
    rw agrees.table (position_from-zero is_reapable_row (rows_from 0 (tickets past) (fate past)) ∙ position-rows is_reapable_row (is_reapable (fate past)) (tickets past) 0 (fate past) (λ x. is_reapable_row-row_of x.1 (fate past x.0)))

is_unreaped_row-row_of : (s : Ticket) (f : Fate) → is_unreaped_row (row_of s f) ≡ not f.reaped
is_unreaped_row-row_of s f = grind (arith, common_steps)

count-rows : (ts : List Ticket) (k : ℕ) (f : ℕ → Fate) → count_by is_unreaped_row (rows_from k ts f) ≡ count_by (is_unreaped f) (enumerate_from k ts)
unfolding rows_from
count-rows [] k f = refl
count-rows (t ∷ ts) k f =
    let more = count-rows ts (k + 1) f in
    let same : is_unreaped_row (row_of t (f k)) ≡ is_unreaped f (k, t) = is_unreaped_row-row_of t (f k) in
    grind (arith, common_steps)

-- as many rows are not reaped as tickets
pub unreaped_count : (past : List Event) (rows : List TicketRow) → Agrees past rows → count_by is_unreaped_row rows ≡ unreaped past
unfolding unreaped
unreaped_count past rows agrees = rw agrees.table (count-rows (tickets past) 0 (fate past))
