-- How many tickets wait for their reap, where an event is of one ticket.
use Rattle.std.proofs.Common.{◌≡◌, ◌≢◌, ◌∙◌, ℕ, ◌+◌, ◌<◌, ◌≤◌, arith, Bool, true, false, cond, List, ◌∷◌, length, Some, refl, sym, ap, subst, slice_get, inl, inr}
use Rattle.std.specs.Prelude.{is_some, not}
use Rattle.std.proofs.lemmas.Bool.{cases_Bool, cases_eq, eq-eqb, ne_eqb, and_parts}
use Rattle.std.proofs.lemmas.Option.{slice_get_within}
use Rattle.std.proofs.lemmas.Grind.{common_steps}
use Rattle.usb_kernel.specs.declared.event.Event.{Event}
use Rattle.usb_kernel.specs.declared.event.Event.TheVariants.{Reap}
use Rattle.usb_kernel.specs.Tickets.{Ticket, tickets}
use Rattle.usb_kernel.specs.Fates.{Fate, waits, reap}
use Rattle.usb_kernel.specs.Journal.{fate, change}
use Rattle.usb_kernel.specs.Completions.{is_reapable, waiting}
use Rattle.usb_kernel.proofs.Waiting.{finished-reapable, waiting-one_less}
use Rattle.usb_kernel.proofs.Selections.{numbers, numbers-same}

-- a finished ticket that waits is not reaped
not-back : (v : Bool) → not v ≡ true → v ≡ false
not-back true is = absurd (cc)
not-back false is = refl

-- an event that changes the fate of one ticket, which did not wait for its reap
module _ (past : List Event) (event : Event) (t : ℕ) (s : Ticket)
    (same : tickets (event ∷ past) ≡ tickets past) (at : slice_get (tickets past) t ≡ Some s)
    (others : (u : ℕ) → u ≢ t → fate (event ∷ past) u ≡ fate past u) (before : waits (fate past t) ≡ false) where
  -- where it does not wait now either, the same tickets wait
  none-more : waits (fate (event ∷ past) t) ≡ false → waiting (event ∷ past) ≡ waiting past
  none-more now =
      subst (λ (ts : List Ticket). numbers (is_reapable (fate (event ∷ past))) 0 ts ≡ waiting past) (sym same)
      (numbers-same (is_reapable (fate past)) (is_reapable (fate (event ∷ past))) 0 (tickets past)
      (λ u x here. let z : 0 + u ≡ u = omega arith in
      rw z (elim (cases_eq u t) [
        | inl is ↦ rw is (now ∙ sym before)
        | inr apart ↦ ap waits (others u apart)
      ])))

  -- and else one more, as its reap shows
  reaped-back : waiting (Reap t ∷ (event ∷ past)) ≡ waiting past
  reaped-back =
      subst (λ (ts : List Ticket). numbers (is_reapable (fate (Reap t ∷ (event ∷ past)))) 0 ts ≡ waiting past) (sym same)
      (numbers-same (is_reapable (fate past)) (is_reapable (fate (Reap t ∷ (event ∷ past)))) 0 (tickets past)
      (λ u x here. let z : 0 + u ≡ u = omega arith in
      rw z (elim (cases_eq u t) [
        | inl is ↦ rw is (own ∙ sym before)
        | inr apart ↦ ap waits (ap (λ v. cond v (change reap (slice_get (tickets (event ∷ past)) u) (fate (event ∷ past) u)) (fate (event ∷ past) u)) (ne_eqb t u (λ is. apart (sym is))) ∙ others u apart)
      ])))
    where
      over : (f : Fate) → waits (reap s f) ≡ false
      over f = grind (arith, common_steps)

      own : waits (fate (Reap t ∷ (event ∷ past)) t) ≡ false
      own =
          ap (λ v. waits (cond v (change reap (slice_get (tickets (event ∷ past)) t) (fate (event ∷ past) t)) (fate (event ∷ past) t))) (eq-eqb t t refl)
          ∙ ap (λ (ts : List Ticket). waits (change reap (slice_get ts t) (fate (event ∷ past) t))) same
          ∙ ap (λ o. waits (change reap o (fate (event ∷ past) t))) at
          ∙ over (fate (event ∷ past) t)

  pub one-more : length (waiting (event ∷ past)) ≤ length (waiting past) + 1
  one-more =
      elim (cases_Bool (waits (fate (event ∷ past) t))) [
        | inl now ↦
            let parts = and_parts (is_some (fate (event ∷ past) t).status) (not (fate (event ∷ past) t).reaped) now in
            let within : t < length (tickets (event ∷ past)) = subst (λ (ts : List Ticket). t < length ts) (sym same) (slice_get_within (tickets past) t s at) in
            let some = finished-reapable (event ∷ past) t within parts.0 (not-back (fate (event ∷ past) t).reaped parts.1) in
            let less = waiting-one_less (event ∷ past) t some in
            let back : length (waiting (Reap t ∷ (event ∷ past))) ≡ length (waiting past) = ap (λ (xs : List ℕ). length xs) reaped-back in
            omega (arith, less, back)
        | inr none ↦ let back : length (waiting (event ∷ past)) ≡ length (waiting past) = ap (λ (xs : List ℕ). length xs) (none-more none) in omega (arith, back)
      ]
