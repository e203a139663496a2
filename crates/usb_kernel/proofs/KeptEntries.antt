-- Entries of deadlines: each is of a ticket that is there, and no two are of one.
use Rattle.std.proofs.Common.{◌≡◌, ◌≢◌, ◌∙◌, ℕ, ◌<◌, arith, true, false, List, [], ◌∷◌, length, Option, Some, None, refl, ap, sym, inl, inr, slice_get}
use Rattle.std.specs.List.{All, AllByRecursion}
use Rattle.std.specs.List.Sorted.{IsStrictlySortedBy}
use Rattle.std.specs.declared.cmp.Ordering.TheVariants.{Less, Equal}
use Rattle.std.specs.BTreeMap.{is_at}
use Rattle.std.specs.Set.{remove_key}
use Rattle.std.proofs.lemmas.List.Elements.{All-nil, All-cons, All-head, All-tail, All-weaker}
use Rattle.std.proofs.lemmas.Option.{none-some, same_Some, slice_get_within}
use Rattle.std.proofs.lemmas.Bool.{cases_Bool}
use Rattle.std.proofs.lemmas.Grind.{common_steps}
use Rattle.usb_kernel.specs.declared.event.Event.{Event}
use Rattle.usb_kernel.specs.Tickets.{Ticket, tickets}
use Rattle.usb_kernel.specs.Journal.{fate}
use Rattle.usb_kernel.specs.Timers.{deadline_of, by_deadline, without_deadline}
use Rattle.usb_kernel.specs.Overdue.{is_discard_of}
use Rattle.usb_kernel.specs.Deadlines.{IsKeptEntry}
use Rattle.usb_kernel.proofs.Rules.{tickets-stay}

-- a ticket that has a deadline
pub with-deadline : (past : List Event) (t n : ℕ) → deadline_of past t ≡ Some n → (s : Ticket) × (slice_get (tickets past) t ≡ Some s) × (s.deadline ≡ Some n)
with-deadline past t n is = with-by (slice_get (tickets past) t) refl
  where
    with-by : (o : Option Ticket) → slice_get (tickets past) t ≡ o → (s : Ticket) × (slice_get (tickets past) t ≡ Some s) × (s.deadline ≡ Some n)
    with-by None at = absurd (none-some n (rw at at is))
    with-by (Some s) at = (s, at, rw at at is)

pub deadline-within : (past : List Event) (t n : ℕ) → deadline_of past t ≡ Some n → t < length (tickets past)
deadline-within past t n is = let s = with-deadline past t n is in slice_get_within (tickets past) t s.0 s.1

-- keeps it
deadline-stays : (past : List Event) (event : Event) (t n : ℕ) → deadline_of past t ≡ Some n → deadline_of (event ∷ past) t ≡ Some n
deadline-stays past event t n is = let s = with-deadline past t n is in rw (tickets-stay past event t s.0 s.1) s.2

-- an entry stays one over an event that neither reaps nor discards its ticket
pub entry-stays : (past : List Event) (event : Event) (p : ℕ × ℕ) → (fate (event ∷ past) p.1).reaped ≡ (fate past p.1).reaped → is_discard_of p.1 event ≡ false → IsKeptEntry past p → IsKeptEntry (event ∷ past) p
entry-stays past event p spared other entry =
    record {
      deadline = deadline-stays past event p.1 p.0 entry.deadline;
      unreaped = spared ∙ entry.unreaped;
      undiscarded = rw other entry.undiscarded;
    }

pub equal-entries : (a b : ℕ × ℕ) → a.0 ≡ b.0 → a.1 ≡ b.1 → by_deadline a b ≡ Equal
equal-entries a b deadline number = grind (arith, common_steps)

-- two entries of one ticket are equal
same-entry : (past : List Event) (a b : ℕ × ℕ) → IsKeptEntry past a → IsKeptEntry past b → a.1 ≡ b.1 → by_deadline a b ≡ Equal
same-entry past a b first second number =
    equal-entries a b (same_Some a.0 b.0 (sym first.deadline ∙ (ap (deadline_of past) number ∙ second.deadline))) number

-- so those behind an entry are of other tickets
pub apart-behind : (past : List Event) (x : ℕ × ℕ) (xs : List (ℕ × ℕ)) → IsKeptEntry past x → All (IsKeptEntry past) xs → AllByRecursion (λ y. by_deadline x y ≡ Less) xs → All (λ y. y.1 ≢ x.1) xs
apart-behind past x [] here each above = All-nil (λ (y : ℕ × ℕ). y.1 ≢ x.1)
apart-behind past x (y ∷ ys) here each above =
    let next : IsKeptEntry past y = All-head (IsKeptEntry past) y ys each in
    All-cons (λ (y : ℕ × ℕ). y.1 ≢ x.1) y ys
    (λ number. let both : Less ≡ Equal = sym above.0 ∙ same-entry past x y here next (sym number) in cc)
    (apart-behind past x ys here (All-tail (IsKeptEntry past) y ys each) above.1)

at-number : (n t : ℕ) (x : ℕ × ℕ) → is_at (by_deadline (n, t)) x ≡ true → x.1 ≡ t
at-number n t x at = grind (arith, common_steps)

-- and once the entry of a ticket is taken out, all are
removed-apart : (past : List Event) (n t : ℕ) (xs : List (ℕ × ℕ)) → deadline_of past t ≡ Some n → IsStrictlySortedBy by_deadline xs → All (IsKeptEntry past) xs → All (λ y. y.1 ≢ t) (remove_key (is_at (by_deadline (n, t))) xs)
unfolding IsStrictlySortedBy
removed-apart past n t [] is up each = All-nil (λ (y : ℕ × ℕ). y.1 ≢ t)
removed-apart past n t (x ∷ xs) is up each =
    let here : IsKeptEntry past x = All-head (IsKeptEntry past) x xs each in
    let rest : All (IsKeptEntry past) xs = All-tail (IsKeptEntry past) x xs each in
    elim (cases_Bool (is_at (by_deadline (n, t)) x)) [
      | inl at ↦
          let number : x.1 ≡ t = at-number n t x at in
          let behind : All (λ (y : ℕ × ℕ). y.1 ≢ x.1) xs = apart-behind past x xs here rest up.0 in
          rw at (rw number at behind)
      | inr other ↦ rw other (All-cons (λ (y : ℕ × ℕ). y.1 ≢ t) x (remove_key (is_at (by_deadline (n, t))) xs) (apart here other) (removed-apart past n t xs is up.1 rest))
    ]
  where
    apart : IsKeptEntry past x → is_at (by_deadline (n, t)) x ≡ false → x.1 ≢ t
    apart here other number =
        let deadline : n ≡ x.0 = same_Some n x.0 (sym is ∙ (ap (deadline_of past) (sym number) ∙ here.deadline)) in
        let equal : by_deadline (n, t) x ≡ Equal = equal-entries (n, t) x deadline (sym number) in
        let both : true ≡ false = rw equal at other in
        cc

pub without-apart : (past : List Event) (t : ℕ) (xs : List (ℕ × ℕ)) → IsStrictlySortedBy by_deadline xs → All (IsKeptEntry past) xs → All (λ y. y.1 ≢ t) (without_deadline xs (deadline_of past t) t)
without-apart past t xs up each = apart-by (deadline_of past t) refl
  where
    apart-by : (o : Option ℕ) → deadline_of past t ≡ o → All (λ y. y.1 ≢ t) (without_deadline xs o t)
    apart-by None none =
        All-weaker (IsKeptEntry past) (λ (y : ℕ × ℕ). y.1 ≢ t) (λ y entry number. absurd (none-some y.0 (sym none ∙ (ap (deadline_of past) (sym number) ∙ entry.deadline)))) xs each
    apart-by (Some n) is = removed-apart past n t xs is up each
