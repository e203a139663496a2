-- The tickets from a place on.
use Rattle.std.proofs.Common.{ℕ, zero, suc, arith, ◌<◌, ◌≤◌, ◌-◌, drop, get_or, ◌≡◌, List, [], ◌∷◌, length, Option, refl, sym, subst, ap, ◌∙◌}
use Rattle.usb_kernel.specs.declared.event.Event.{Event}
use Rattle.usb_kernel.specs.Steps.{after_discard}
use Rattle.usb_device_endpoint.specs.BusState.{BusState}
use Rattle.usb_device_endpoint.specs.Closes.{all_discarded}

drop-at : (ts : List ℕ) (j d : ℕ) → j < length ts → drop j ts ≡ get_or ts j d ∷ drop (suc j) ts
drop-at [] j d lt = absurd (omega arith)
drop-at (t ∷ ts) zero d lt = refl
drop-at (t ∷ ts) (suc j) d lt = drop-at ts j d (omega arith)

drop-before : (ts : List ℕ) (i d : ℕ) → 0 < i → i ≤ length ts → drop (i - 1) ts ≡ get_or ts (i - 1) d ∷ drop i ts
drop-before ts zero d some within = absurd (omega arith)
drop-before ts (suc j) d some within = let e : suc j - 1 ≡ j = omega arith in rw e (drop-at ts j d (omega arith))

joined : (first old : BusState) (now past : List Event) (left : ℕ) (before : List Event) → old ≡ record first { past = before; turns_left = old.turns_left } → now ≡ past
    → record old { past = now; turns_left = left } ≡ record first { past = past; turns_left = left }
joined first old now past left before so_far is = rw (so_far, is) refl

-- one more discard, from the last ticket on
pub all_discarded-step : {S : Type 0} (discarded : S → ℕ → S) (old now : S) (ts : List ℕ) (i x : ℕ) → 0 < i → i ≤ length ts → x ≡ get_or ts (i - 1) x
    → now ≡ all_discarded discarded old (drop i ts) → discarded now x ≡ all_discarded discarded old (drop (i - 1) ts)
all_discarded-step discarded old now ts i x some within is so_far =
    let e = drop-before ts i x some within in
    rw (so_far, e, ← is) refl

-- what a handle needs to know of the bus after it
pub discarded-state : (first old new : BusState) (ts : List ℕ) (i x : ℕ) → 0 < i → i ≤ length ts → x ≡ get_or ts (i - 1) x
    → old ≡ record first { past = all_discarded after_discard first.past (drop i ts); turns_left = old.turns_left }
    → new ≡ record old { past = after_discard old.past x; turns_left = new.turns_left }
    → new ≡ record first { past = all_discarded after_discard first.past (drop (i - 1) ts); turns_left = new.turns_left }
discarded-state first old new ts i x some within is so_far after =
    let past = all_discarded-step after_discard first.past old.past ts i x some within is (ap (λ (b : BusState). b.past) so_far) in
    after ∙ joined first old (after_discard old.past x) _ new.turns_left _ so_far past

-- where only owners changed, and then owners alone, only owners changed
pub owner-only : (first old new : BusState) (owner : ℕ → Option ℕ) → new ≡ record old { owner = owner } → old ≡ record first { owner = old.owner } → new ≡ record first { owner = new.owner }
owner-only first old new owner after so_far =
    let own : new.owner ≡ owner = ap (λ (b : BusState). b.owner) after in
    subst (λ (o : ℕ → Option ℕ). new ≡ record first { owner = o }) (sym own) (after ∙ ap (λ (b : BusState). record b { owner = owner }) so_far)
