-- The map of the ends.
use Rattle.std.proofs.Common.{◌≡◌, ℕ, false, Option, Some, None, refl, sym, ap, ◌∙◌, cond, inl, inr}
use Rattle.std.specs.Prelude.{◌==◌, ◌&&◌, is_some, unwrap_or, if◌then◌else◌}
use Rattle.std.specs.declared.cmp.Ordering.{Ordering}
use Rattle.std.specs.declared.cmp.Ordering.TheVariants.{Less, Equal, Greater}
use Rattle.std.specs.Ordering.{nat_cmp, ordering_then, is_eq}
use Rattle.std.specs.BTreeMap.{is_at}
use Rattle.std.specs.Cmp.{unsigned_tied}
use Rattle.std.proofs.lemmas.Bool.{cases_Bool, and_parts, eqb-true, false≢true}
use Rattle.usb_kernel.specs.declared.record.Ends.{Ends}
use Rattle.usb_kernel.specs.Queues.{no_ends, by_endpoint}

both-equal : (a b : Ordering) → is_eq (ordering_then a b) ≡ is_eq a && is_eq b
both-equal Less b = refl
both-equal Equal b = refl
both-equal Greater b = refl

pub compared : (d e x y : ℕ) → is_at (by_endpoint (d, e)) (x, y) ≡ d == x && e == y
compared d e x y = both-equal (nat_cmp d x) (nat_cmp e y) ∙ rw (unsigned_tied d x, unsigned_tied e y) refl

-- an endpoint with no entry has no list
pub ends-none : (o : Option Ends) → is_some o ≡ false → unwrap_or o no_ends ≡ no_ends
ends-none None none = refl
ends-none (Some ends) none = absurd (false≢true (sym none))

module _ (old new : ℕ × ℕ → Option Ends) (d e : ℕ) (ends : Ends) (updated : (q : ℕ × ℕ) → new q ≡ cond (is_at (by_endpoint (d, e)) q) (Some ends) (old q)) where
  pub ends-set : (x y : ℕ) → unwrap_or (new (x, y)) no_ends ≡ (if d == x && e == y then ends else unwrap_or (old (x, y)) no_ends)
  ends-set x y =
      let is = updated (x, y) ∙ ap (λ b. cond b (Some ends) (old (x, y))) (compared d e x y) in
      elim (cases_Bool (d == x && e == y)) [
        | inl same ↦ rw (is, same) refl
        | inr other ↦ rw (is, other) refl
      ]

  -- what it was
  pub ends-same : ends ≡ unwrap_or (old (d, e)) no_ends → (x y : ℕ) → unwrap_or (new (x, y)) no_ends ≡ unwrap_or (old (x, y)) no_ends
  ends-same was x y = elim (cases_Bool (d == x && e == y)) [
    | inl same ↦
        let parts = and_parts (d == x) (e == y) same in
        let f : d ≡ x = eqb-true d x parts.0 in
        let s : e ≡ y = eqb-true e y parts.1 in
        ends-set x y ∙ rw (same, ← f, ← s) was
    | inr other ↦ ends-set x y ∙ rw other refl
  ]
