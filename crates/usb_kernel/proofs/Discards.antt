use Rattle.std.proofs.Common.{◌≡◌, ℕ, ◌<◌, ◌≤◌, arith, List, ◌∷◌, length, set, Option, Some, None, true, false, refl, ap, sym, ◌∙◌, inl, inr}
use Rattle.std.specs.Prelude.{is_none, is_some}
use Rattle.std.proofs.lemmas.Grind.{common_steps}
use Rattle.std.proofs.lemmas.Bool.{cases_Bool, lt-ltb, le-ltb}
use Rattle.usb_kernel.specs.declared.event.Event.{Event}
use Rattle.usb_kernel.specs.declared.event.Event.TheVariants.{Discard}
use Rattle.usb_kernel.specs.declared.slot.TicketRow.{TicketRow}
use Rattle.usb_kernel.specs.Tickets.{tickets}
use Rattle.usb_kernel.specs.Fates.{finish}
use Rattle.usb_kernel.specs.Journal.{fate}
use Rattle.usb_kernel.specs.Steps.{is_unfinished, after_discard}
use Rattle.usb_kernel.specs.Rows.{row_of, Agrees}
use Rattle.usb_kernel.proofs.Fresh.{length-rows}
use Rattle.usb_kernel.proofs.StepLemmas.{Agrees-set, RowAt, some_not_none}

pub after_discard-none : (past : List Event) (t : ℕ) → is_unfinished past t ≡ false → after_discard past t ≡ past
after_discard-none past t none = rw none refl

pub after_discard-some : (past : List Event) (t : ℕ) → is_unfinished past t ≡ true → after_discard past t ≡ Discard t ∷ past
after_discard-some past t some = rw some refl

-- it tells whether the ticket was unfinished
pub unfinished-none : (past : List Event) (t : ℕ) → after_discard past t ≡ past → is_unfinished past t ≡ false
unfinished-none past t same =
    elim (cases_Bool (is_unfinished past t)) [
      | inr none ↦ none
      | inl some ↦ absurd (let longer : length (Discard t ∷ past) ≡ length past = ap length (rw some at same) in omega arith)
    ]

pub unfinished-some : (past : List Event) (t : ℕ) → after_discard past t ≡ Discard t ∷ past → is_unfinished past t ≡ true
unfinished-some past t more =
    elim (cases_Bool (is_unfinished past t)) [
      | inl some ↦ some
      | inr none ↦ absurd (let longer : length past ≡ length (Discard t ∷ past) = ap length (rw none at more) in omega arith)
    ]

pub is_unfinished-beyond : (past : List Event) (rows : List TicketRow) (t : ℕ) → Agrees past rows → length rows ≤ t → is_unfinished past t ≡ false
is_unfinished-beyond past rows t agrees beyond =
    let few : length (tickets past) ≤ t = omega (arith, length-rows past rows agrees) in
    rw (le-ltb t (length (tickets past)) few) refl

pub is_unfinished-row : (past : List Event) (rows : List TicketRow) (t : ℕ) (r : TicketRow) → Agrees past rows → t < length rows → RowAt past t r → is_unfinished past t ≡ is_none r.status
is_unfinished-row past rows t r agrees inside a =
    let few : t < length (tickets past) = omega (arith, length-rows past rows agrees) in
    rw (lt-ltb t (length (tickets past)) few, a.row) refl

pub Agrees-discard : (past later : List Event) (rows : List TicketRow) (i : ℕ) (r next : TicketRow) → Agrees past rows → RowAt past i r → r.status ≡ None → next ≡ record r { status = Some 2 } → later ≡ Discard i ∷ past → Agrees later (set rows i next)
Agrees-discard past later rows i r next agrees a unfinished is so =
    let none : (fate past i).status ≡ None = sym (ap (λ (x : TicketRow). x.status) a.row) ∙ unfinished in
    let same : next ≡ row_of a.ticket (finish 2 (fate past i)) = is ∙ rw (a.row, none) refl in
    let done : next.status ≡ Some 2 = ap (λ (x : TicketRow). x.status) is in
    rw so (Agrees-set past (Discard i) rows i a.ticket next (λ s. finish 2) agrees a.at same (λ never. absurd (some_not_none next.status (rw done refl) never)) refl (λ u. refl))

pub none_when : {X : Type 0} (o : Option X) → false ≡ is_some o → o ≡ None
none_when o said = grind (arith, common_steps)

pub not_none_when : {X : Type 0} (o : Option X) → true ≡ is_some o → is_none o ≡ false
not_none_when o said = grind (arith, common_steps)
