-- The numbers of the finished tickets follow the rows.
use Rattle.std.proofs.Common.{◌≡◌, ℕ, ◌+◌, ◌<◌, ◌≤◌, suc, zero, arith, List, [], ◌∷◌, ◌++◌, length, set, get_or, Some, None, Ok, Err, Bool, true, false, refl, ap, sym, ◌∙◌, slice_get, inl, inr}
use Rattle.std.specs.Prelude.{position, IsSome}
use Rattle.std.specs.List.{count_by, insert, remove, position_from}
use Rattle.std.specs.List.Sorted.{IsBinarySearchResult}
use Rattle.std.specs.Ordering.{nat_cmp, ordering_index}
use Rattle.std.proofs.lemmas.Bool.{cases_Bool, cases_lt}
use Rattle.std.proofs.lemmas.Option.{none-some, same_Some}
use Rattle.std.proofs.lemmas.Bool.Decides.{nat_tests}
use Rattle.std.proofs.lemmas.Cmp.{ranked}
use Rattle.std.proofs.lemmas.List.Sorted.{IsNonDecreasingBy-from_default}
use Rattle.std.proofs.lemmas.Iterator.Adapters.{position_from-zero}
use Rattle.std.proofs.lemmas.Grind.{common_steps}
use Rattle.usb_kernel.specs.declared.slot.TicketRow.{TicketRow}
use Rattle.usb_kernel.specs.Rows.{is_reapable_row, is_unreaped_row}
use Rattle.usb_kernel.specs.Unreaped.{entries_from, finished_numbers, Finishes, Reaps}
use Rattle.usb_kernel.proofs.Entries.{entries-add_none, entries-same, entries-rise, entries-there, entries-not_there, entries-remove, entries-insert}

-- there is no ticket
pub no_entries : {X : Type 0} (p : TicketRow → Bool) (entry : ℕ → TicketRow → X) → [] ≡ entries_from p entry 0 []
unfolding entries_from
no_entries p entry = refl

-- where a binary search by number ends, in a list whose numbers rise
module _ (xs : List ℕ) (n at : ℕ) where
  found-at : IsBinarySearchResult (λ y. nat_cmp y n) xs (Ok at) → get_or xs at 0 ≡ n
  found-at equal = ranked _ n _ (sym (equal 0))

  rising : ((i j : ℕ) → i < j → j < length xs → get_or xs i 0 < get_or xs j 0) → (i j : ℕ) → i ≤ j → j < length xs → ordering_index (nat_cmp (get_or xs i 0) n) ≤ ordering_index (nat_cmp (get_or xs j 0) n)
  rising rise i j before inside =
      let le : get_or xs i 0 ≤ get_or xs j 0 = grind (arith, rise i j, λ (same : i ≡ j). ap (λ u. get_or xs u 0) same) in
      grind (arith, nat_tests)

  found-gap : ((i j : ℕ) → i < j → j < length xs → get_or xs i 0 < get_or xs j 0) → at ≤ length xs → IsBinarySearchResult (λ y. nat_cmp y n) xs (Err at) → ((u : ℕ) → u < at → get_or xs u 0 < n) × ((u : ℕ) → at ≤ u → u < length xs → n < get_or xs u 0)
  found-gap rise inside parted =
      let parts = parted (IsNonDecreasingBy-from_default (λ y. ordering_index (nat_cmp y n)) xs 0 (rising rise)) in (
        λ u below. ranked _ n _ (sym (parts.0 u 0 (omega arith) below)),
        λ u above within. ranked _ n _ (sym (parts.1 u 0 above within)),
      )

not_reapable : (r : TicketRow) → r.status ≡ None → is_reapable_row r ≡ false
not_reapable r none = rw none refl

reapable-both : (r : TicketRow) → IsSome r.status → IsSome r.buffer → is_reapable_row r ≡ true
reapable-both r some waiting = grind (arith, common_steps)

reaped_row : (r : TicketRow) → r.buffer ≡ None → is_reapable_row r ≡ false
reaped_row r none = rw none (grind (arith, common_steps))

-- the numbers before a ticket is finished
module _ (rows : List TicketRow) (numbers : List ℕ) (t : ℕ) (next : TicketRow) (listed : numbers ≡ finished_numbers rows) (f : Finishes rows t next) where
  -- it is not among them
  pub not_finished : (at : ℕ) → at < length numbers → IsBinarySearchResult (λ y. nat_cmp y t) numbers (Ok at) → ⊥
  not_finished at inside equal =
      let z : 0 + t ≡ t = omega arith in
      let here = found-at (finished_numbers rows) t at (rw listed at equal) in
      entries-not_there is_reapable_row (λ k r. k) (λ e. e) (λ k r. refl) 0 rows 0 t at f.row f.at (not_reapable f.row f.unfinished) (rw listed at inside) (here ∙ sym z)

  -- and its number is put there
  pub number-inserted : (at : ℕ) → at ≤ length numbers → IsBinarySearchResult (λ y. nat_cmp y t) numbers (Err at) → insert numbers at t ≡ finished_numbers (set rows t next)
  number-inserted at inside parted =
      let z : 0 + t ≡ t = omega arith in
      let rise = entries-rise is_reapable_row (λ k r. k) (λ e. e) (λ k r. refl) 0 rows 0 in
      let within = rw listed at inside in
      let parts = found-gap (finished_numbers rows) t at rise within (rw listed at parted) in
      rw listed
      (ap (λ n. insert (finished_numbers rows) at n) (sym z)
      ∙ entries-insert is_reapable_row (λ k r. k) (λ e. e) (λ k r. refl) 0 rows 0 t at f.row next f.at (not_reapable f.row f.unfinished) (reapable-both next f.finished f.waiting) within (λ u below. omega (arith, parts.0 u below)) (λ u above inner. omega (arith, parts.1 u above inner)))

-- the numbers before a ticket is reaped
module _ (rows : List TicketRow) (numbers : List ℕ) (t : ℕ) (next : TicketRow) (listed : numbers ≡ finished_numbers rows) (r : Reaps rows t next) where
  was_reapable : is_reapable_row r.row ≡ true
  was_reapable = reapable-both r.row r.finished r.waiting

  -- it is among them
  pub reaped-found : (at : ℕ) → at ≤ length numbers → IsBinarySearchResult (λ y. nat_cmp y t) numbers (Err at) → ⊥
  reaped-found at inside parted =
      let there = entries-there is_reapable_row (λ k r. k) (λ e. e) (λ k r. refl) 0 rows 0 t r.row r.at was_reapable in
      let rise = entries-rise is_reapable_row (λ k r. k) (λ e. e) (λ k r. refl) 0 rows 0 in
      let parts = found-gap (finished_numbers rows) t at rise (rw listed at inside) (rw listed at parted) in
      elim (cases_lt there.0 at) [
        | inl below ↦ absurd (omega (arith, parts.0 there.0 below, there.2))
        | inr above ↦ absurd (omega (arith, parts.1 there.0 above there.1, there.2))
      ]

  -- and its number goes
  pub reaped-removed : (at : ℕ) → at < length numbers → IsBinarySearchResult (λ y. nat_cmp y t) numbers (Ok at) → remove numbers at ≡ finished_numbers (set rows t next)
  reaped-removed at inside equal =
      let z : 0 + t ≡ t = omega arith in
      let here = found-at (finished_numbers rows) t at (rw listed at equal) in
      rw listed (entries-remove is_reapable_row (λ k r. k) (λ e. e) (λ k r. refl) 0 rows 0 t at r.row next r.at was_reapable (reaped_row next r.reaped) (rw listed at inside) (here ∙ sym z))

-- an open ticket that stays so
pub numbers-open : (rows : List TicketRow) (t : ℕ) (row next : TicketRow) → slice_get rows t ≡ Some row → row.status ≡ None → next.status ≡ None → finished_numbers (set rows t next) ≡ finished_numbers rows
numbers-open rows t row next at unfinished none =
    entries-same is_reapable_row (λ k r. k) rows 0 t row next at (not_reapable next none ∙ sym (not_reapable row unfinished)) (λ u passes. refl)

-- one more ticket, open
pub numbers-add : (rows : List TicketRow) (r : TicketRow) → r.status ≡ None → finished_numbers (rows ++ r ∷ []) ≡ finished_numbers rows
numbers-add rows r none = entries-add_none is_reapable_row (λ k r. k) rows r (not_reapable r none)

-- one more ticket, refused
pub numbers-refused : (rows : List TicketRow) (r : TicketRow) → r.buffer ≡ None → finished_numbers (rows ++ r ∷ []) ≡ finished_numbers rows
numbers-refused rows r none = entries-add_none is_reapable_row (λ k r. k) rows r (reaped_row r none)

-- the first finished number
lowest_from : (rows : List TicketRow) (k : ℕ) → position_from is_reapable_row k rows ≡ slice_get (entries_from is_reapable_row (λ k r. k) k rows) 0
unfolding entries_from
lowest_from [] k = refl
lowest_from (r ∷ rows) k =
    let others = lowest_from rows (k + 1) in
    elim (cases_Bool (is_reapable_row r)) [ inl waits ↦ rw waits refl | inr none ↦ rw none others ]

pub lowest-listed : (rows : List TicketRow) → slice_get (finished_numbers rows) 0 ≡ position is_reapable_row rows
lowest-listed rows = sym (position_from-zero is_reapable_row rows ∙ lowest_from rows 0)

-- those that are finished are among those that are not reaped
pub numbers-few : (rows : List TicketRow) (k : ℕ) → length (entries_from is_reapable_row (λ k r. k) k rows) ≤ count_by is_unreaped_row rows
unfolding entries_from
numbers-few [] k = omega arith
numbers-few (r ∷ rows) k =
    let others = numbers-few rows (k + 1) in
    grind (arith, common_steps)

-- and an open ticket is one more
numbers-fewer_from : (rows : List TicketRow) (k t : ℕ) (r : TicketRow) → slice_get rows t ≡ Some r → r.status ≡ None → IsSome r.buffer → length (entries_from is_reapable_row (λ k r. k) k rows) + 1 ≤ count_by is_unreaped_row rows
unfolding entries_from
numbers-fewer_from [] k t r at unfinished waiting = absurd (none-some r at)
numbers-fewer_from (x ∷ rows) k zero r at unfinished waiting =
    let is : x ≡ r = same_Some x r at in
    let open_now : x.status ≡ None = rw is unfinished in
    let waits : IsSome x.buffer = rw is waiting in
    let others = numbers-few rows (k + 1) in
    grind (arith, common_steps)
numbers-fewer_from (x ∷ rows) k (suc t) r at unfinished waiting =
    let others = numbers-fewer_from rows (k + 1) t r at unfinished waiting in
    grind (arith, common_steps)

pub numbers-fewer : (rows : List TicketRow) (t : ℕ) (r : TicketRow) → slice_get rows t ≡ Some r → r.status ≡ None → IsSome r.buffer → length (finished_numbers rows) + 1 ≤ count_by is_unreaped_row rows
numbers-fewer rows t r at unfinished waiting = numbers-fewer_from rows 0 t r at unfinished waiting
