-- The deadlines that are up are no more than the tickets that the timer may look at.
use Rattle.std.proofs.Common.{◌≡◌, ◌≢◌, ◌∙◌, ℕ, ◌+◌, ◌≤◌, arith, Bool, true, false, List, [], ◌∷◌, length, Some, refl, sym, inl, inr, slice_get}
use Rattle.std.specs.Prelude.{filter, ◌==◌, ◌&&◌, not, if◌then◌else◌}
use Rattle.std.specs.Int.{from_bool}
use Rattle.std.specs.List.{All, enumerate_from}
use Rattle.std.specs.List.Sorted.{IsStrictlySortedBy}
use Rattle.std.proofs.lemmas.List.{length-map}
use Rattle.std.proofs.lemmas.List.Sums.{length-filter}
use Rattle.std.proofs.lemmas.List.Elements.{All-head, All-tail}
use Rattle.std.proofs.lemmas.Option.{same_Some}
use Rattle.std.proofs.lemmas.Bool.{cases_Bool, ne_eqb, le-leb}
use Rattle.usb_kernel.specs.declared.event.Event.{Event}
use Rattle.usb_kernel.specs.Tickets.{Ticket, tickets}
use Rattle.usb_kernel.specs.Timers.{by_deadline, is_up}
use Rattle.usb_kernel.specs.Overdue.{is_overdue, overdue_count}
use Rattle.usb_kernel.specs.Deadlines.{IsKeptEntry, KeepsDeadlines}
use Rattle.usb_kernel.proofs.KeptEntries.{with-deadline, apart-behind}
use Rattle.usb_kernel.proofs.Selections.{numbers, without_number, numbers-without, length-without}

-- where an entry is up, its ticket passes a test
abbrev UpPasses : List Event → ℕ → ((ℕ × Ticket) → Bool) → ℕ × ℕ → Type 0
UpPasses past clock q p = is_up clock p ≡ true → (s : Ticket) → slice_get (tickets past) p.1 ≡ Some s → q (p.1, s) ≡ true

-- entries of different tickets, and as many tickets that pass
up-few : (past : List Event) (clock : ℕ) (q : (ℕ × Ticket) → Bool) (ds : List (ℕ × ℕ)) → IsStrictlySortedBy by_deadline ds → All (IsKeptEntry past) ds → All (UpPasses past clock q) ds → length (filter (is_up clock) ds) ≤ length (numbers q 0 (tickets past))
unfolding IsStrictlySortedBy
up-few past clock q [] up each pass = omega arith
up-few past clock q (x ∷ xs) up each pass =
    let here : IsKeptEntry past x = All-head (IsKeptEntry past) x xs each in
    let rest : All (IsKeptEntry past) xs = All-tail (IsKeptEntry past) x xs each in
    let first : UpPasses past clock q x = All-head (UpPasses past clock q) x xs pass in
    let more : All (UpPasses past clock q) xs = All-tail (UpPasses past clock q) x xs pass in
    elim (cases_Bool (is_up clock x)) [
      | inr late ↦ rw late (up-few past clock q xs up.1 rest more)
      | inl due ↦
          let others : (ℕ × Ticket) → Bool = (λ (y : ℕ × Ticket). not (y.0 == x.1) && q y) in
          let apart : All (λ (y : ℕ × ℕ). y.1 ≢ x.1) xs = apart-behind past x xs here rest up.0 in
          let still : All (UpPasses past clock others) xs = (λ k d within up_too s at. rw (ne_eqb _ x.1 (apart k d within)) (more k d within up_too s at)) in
          let s = with-deadline past x.1 x.0 here.deadline in
          let z : 0 + x.1 ≡ x.1 = omega arith in
          let fewer : length (filter (is_up clock) xs) ≤ length (numbers others 0 (tickets past)) = up-few past clock others xs up.1 rest still in
          let without : numbers others 0 (tickets past) ≡ without_number x.1 (numbers q 0 (tickets past)) = numbers-without q others x.1 0 (tickets past) (λ i y at. refl) in
          let less : length (without_number (0 + x.1) (numbers q 0 (tickets past))) + 1 ≡ length (numbers q 0 (tickets past)) = length-without q 0 x.1 (tickets past) s.0 s.1 (rw z (first due s.0 s.1)) in
          let one_less : length (numbers others 0 (tickets past)) + 1 ≡ length (numbers q 0 (tickets past)) = rw (without, ← z) less in
          rw due (omega arith)
    ]

pending-passes : (past : List Event) (clock : ℕ) (p : ℕ × ℕ) → IsKeptEntry past p → UpPasses past clock (is_overdue past clock) p
pending-passes past clock p entry up s at =
    let t = with-deadline past p.1 p.0 entry.deadline in
    let same : s ≡ t.0 = same_Some s t.0 (sym at ∙ t.1) in
    rw (same, entry.unreaped, entry.undiscarded, t.2) up

-- the entries that are up, and with them the tickets that a turn looks at
pub up-overdue : (past : List Event) (clock : ℕ) (ds : List (ℕ × ℕ)) → KeepsDeadlines past ds → length (filter (is_up clock) ds) ≤ overdue_count clock past
unfolding overdue_count
up-overdue past clock ds kept =
    let pass : All (UpPasses past clock (is_overdue past clock)) ds = (λ k d within. pending-passes past clock _ (kept.each k d within)) in
    let few = up-few past clock (is_overdue past clock) ds kept.ordered kept.each pass in
    omega (arith, few, length-map {A = ℕ × Ticket} (filter (is_overdue past clock) (enumerate_from 0 (tickets past))) (λ x. x.0), length-filter (is_overdue past clock) (enumerate_from 0 (tickets past)))

-- the first entry is one of them
pub up-first : (clock n t : ℕ) (old new : List (ℕ × ℕ)) → old ≡ (n, t) ∷ new → n ≤ clock → length (filter (is_up clock) old) ≡ length (filter (is_up clock) new) + 1
up-first clock n t old new is up = rw (is, le-leb n clock up) (omega arith)

-- a test as a number
pub from-bool : (b : Bool) → from_bool b ≡ (if b then 1 else 0)
from-bool true = refl
from-bool false = refl
