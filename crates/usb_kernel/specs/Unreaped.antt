-- The numbers of the tickets that are finished and not reaped, as the kernel lists them.
use Rattle.std.specs.Prelude.{ℕ, ◌+◌, ◌≡◌, Bool, List, [], ◌∷◌, Some, None, IsSome, slice_get, if◌then◌else◌}
use Rattle.usb_kernel.specs.declared.slot.TicketRow.{TicketRow}
use Rattle.usb_kernel.specs.Rows.{is_reapable_row}

-- the entries of the rows that pass a test, where the first row has number k
unfoldable pub entries_from : {X : Type 0} → (TicketRow → Bool) → (ℕ → TicketRow → X) → ℕ → List TicketRow → List X
entries_from p entry k [] = []
entries_from p entry k (r ∷ rows) = if p r then entry k r ∷ entries_from p entry (k + 1) rows else entries_from p entry (k + 1) rows

-- these numbers, ascending
abbrev pub finished_numbers : List TicketRow → List ℕ
finished_numbers rows = entries_from is_reapable_row (λ k r. k) 0 rows

-- the row of ticket t was that of an open ticket, and next is finished and not reaped
pub record Finishes (rows : List TicketRow) (t : ℕ) (next : TicketRow) : Type 0 where
  pub row : TicketRow
  pub at : slice_get rows t ≡ Some row
  pub unfinished : row.status ≡ None
  pub finished : IsSome next.status
  pub waiting : IsSome next.buffer

-- the row of ticket t was finished and not reaped, and next is its row once it is reaped
pub record Reaps (rows : List TicketRow) (t : ℕ) (next : TicketRow) : Type 0 where
  pub row : TicketRow
  pub at : slice_get rows t ≡ Some row
  pub finished : IsSome row.status
  pub waiting : IsSome row.buffer
  pub still : next.status ≡ row.status
  pub reaped : next.buffer ≡ None
