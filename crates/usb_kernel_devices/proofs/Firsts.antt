-- The first and the last place of which something is true, after a change of one place.
use Rattle.std.proofs.Common.{◌≡◌, ◌≢◌, ℕ, suc, ◌<◌, ◌≤◌, Bool, true, false, Option, Some, None, ◌∙◌, inl, inr, arith}
use Rattle.std.proofs.lemmas.Bool.{cases_eq, cases_lt}
use Rattle.usb_kernel_devices.specs.Queues.{IsFirst, IsLast}

true-false : (b : Bool) → b ≡ true → b ≡ false → ⊥
true-false b yes_ no_ = absurd (cc)

module _ (v w : ℕ → Bool) where
  pub first-same : (from : ℕ) (o : Option ℕ) → ((i : ℕ) → from ≤ i → v i ≡ w i) → IsFirst w from o → IsFirst v from o
  first-same from None same first = λ i after. same i after ∙ first i after
  first-same from (Some j) same first = (first.0, same j first.0 ∙ first.1, λ i after before. same i after ∙ first.2 i after before)

  pub last-same : (o : Option ℕ) (last : ℕ) → ((i : ℕ) → v i ≡ w i) → IsLast w o last → IsLast v o last
  last-same None last same is = tt
  last-same (Some j) last same is = (same last ∙ is.0, λ i behind. same i ∙ is.1 i behind)

  -- one more comes behind all
  module _ (n : ℕ) (here : v n ≡ true) (others : (i : ℕ) → i ≢ n → v i ≡ w i) (end : (i : ℕ) → n ≤ i → w i ≡ false) where
    pub first-more_none : (from : ℕ) → from ≤ n → ((i : ℕ) → from ≤ i → w i ≡ false) → IsFirst v from (Some n)
    first-more_none from below none = (below, here, λ i after before. others i (λ z. absurd (omega (arith, z, before))) ∙ none i after)

    inside : (j : ℕ) → w j ≡ true → j < n
    inside j yes_ = elim (cases_lt j n) [ inl below ↦ below | inr past ↦ absurd (true-false (w j) yes_ (end j past)) ]

    pub first-more_some : (from j : ℕ) → IsFirst w from (Some j) → IsFirst v from (Some j)
    first-more_some from j first =
        let below = inside j first.1 in
        (first.0, others j (λ z. absurd (omega (arith, z, below))) ∙ first.1, λ i after before. others i (λ z. absurd (omega (arith, z, before, below))) ∙ first.2 i after before)

    pub first-more : (from place : ℕ) (o : Option ℕ) → from ≤ n → place ≡ n → IsFirst w from o → IsFirst v from (Some (elim o as (λ _. ℕ) [ None ↦ place | Some j ↦ j ]))
    first-more from place None below is first = rw is (first-more_none from below first)
    first-more from place (Some j) below is first = first-more_some from j first

    pub last-more : (o : ℕ) → IsLast v (Some o) n
    last-more o = (here, λ i behind. others i (λ z. absurd (omega (arith, z, behind))) ∙ end i (omega (arith, behind)))

  -- the first goes
  module _ (j : ℕ) (gone : v j ≡ false) (others : (i : ℕ) → i ≢ j → v i ≡ w i) (first : IsFirst w 0 (Some j)) where
    pub first-less : (o : Option ℕ) → IsFirst w (suc j) o → IsFirst v 0 o
    first-less None later = λ i after. elim (cases_eq i j) [
      | inl same ↦ rw same gone
      | inr other ↦ elim (cases_lt i j) [
        | inl before ↦ others i other ∙ first.2 i (omega arith) before
        | inr past ↦ others i other ∙ later i (omega (arith, past, other))
      ]
    ]
    first-less (Some k) later = (
      omega arith,
      others k (λ z. absurd (omega (arith, z, later.0))) ∙ later.1,
      λ i after before. elim (cases_eq i j) [
        | inl same ↦ rw same gone
        | inr other ↦ elim (cases_lt i j) [
          | inl lower ↦ others i other ∙ first.2 i (omega arith) lower
          | inr past ↦ others i other ∙ later.2 i (omega (arith, past, other)) before
        ]
      ],
    )

    pub last-less : (o : Option ℕ) (last : ℕ) → IsFirst w (suc j) o → IsLast w (Some j) last → IsLast v o last
    last-less None last later is = tt
    last-less (Some k) last later is =
        let behind : k ≤ last = elim (cases_lt last k) [ inl before ↦ absurd (true-false (w k) later.1 (is.1 k before)) | inr past ↦ past ] in (
          others last (λ z. absurd (omega (arith, z, later.0, behind))) ∙ is.0,
          λ i after. others i (λ z. absurd (omega (arith, z, after, later.0, behind))) ∙ is.1 i after,
        )
