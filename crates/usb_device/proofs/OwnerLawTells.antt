-- Which claims have an owner, and how one of them comes or goes.
use Rattle.std.proofs.Common.{ℕ, arith, ◌≡◌, ◌≢◌, ◌+◌, Bool, true, false, Option, Some, None, slice_get, ◌⊎◌, inl, inr, refl, sym, ◌∙◌, ap, subst}
use Rattle.std.specs.Prelude.{◌==◌, ◌&&◌, option_and_then}
use Rattle.std.proofs.lemmas.Bool.{cases_eq, eq-eqb, ne_eqb}
use Rattle.usb_device_tables.specs.History.{value_at}
use Rattle.usb_kernel.specs.ClaimLaws.{is_claimed}
use Rattle.usb_device_ledger.specs.Entries.{ClaimedInterface}
use Rattle.usb_device_host.specs.HostState.{HostState}
use Rattle.usb_device.specs.OwnerLaws.{is_owned_claim, has_owner, ClaimsAreOwned}
use Rattle.usb_device.proofs.OwnerLawLists.{any-found, any-at}
use Rattle.usb_device_host.proofs.HeldDevices.{entry-at}

-- whether the claimed interface of a key is interface n of device d and has an owner
abbrev pub owns : HostState → ℕ → ℕ → ℕ → Bool
owns h d n i = is_owned_claim h d n (i, value_at h.interfaces i)

-- what is claimed is owned by exactly one key
pub record Tells (claimed : ℕ → ℕ → Bool) (owned : ℕ → ℕ → ℕ → Bool) : Type 0 where
  pub found : (d n : ℕ) → claimed d n ≡ true → (i : ℕ) × (owned d n i ≡ true)
  pub known : (d n i : ℕ) → owned d n i ≡ true → claimed d n ≡ true
  pub apart : (d n i j : ℕ) → owned d n i ≡ true → owned d n j ≡ true → i ≡ j

not-both : (b : Bool) → b ≡ true → b ≡ false → ⊥
not-both b is is_not = let e = sym is ∙ is_not in cc

alike : (a b : Bool) → (a ≡ true → b ≡ true) → (b ≡ true → a ≡ true) → a ≡ b
alike true b to from = sym (to refl)
alike false true to from = from refl
alike false false to from = refl

-- a claim that has an owner
pub record OwnsAt (h : HostState) (d n i : ℕ) : Type 0 where
  pub claim : ClaimedInterface
  pub at : value_at h.interfaces i ≡ Some claim
  pub owned : is_owned_claim h d n (i, Some claim) ≡ true

owns-at : (h : HostState) (d n i : ℕ) → owns h d n i ≡ true → OwnsAt h d n i
owns-at h d n i is = by (value_at h.interfaces i) refl is
  where
    by : (o : Option ClaimedInterface) → value_at h.interfaces i ≡ o → is_owned_claim h d n (i, o) ≡ true → OwnsAt h d n i
    by None at owned = absurd (cc)
    by (Some c) at owned = record { claim = c; at = at; owned = owned }

pub at-owns : (h : HostState) (d n i : ℕ) (c : ClaimedInterface) → value_at h.interfaces i ≡ Some c → owns h d n i ≡ is_owned_claim h d n (i, Some c)
at-owns h d n i c at = ap (λ (o : Option ClaimedInterface). is_owned_claim h d n (i, o)) at

found-owns : (h : HostState) (d n i : ℕ) (o : Option ClaimedInterface) → slice_get h.interfaces i ≡ Some o → owns h d n i ≡ is_owned_claim h d n (i, o)
found-owns h d n i o at = ap (λ (e : Option (Option ClaimedInterface)). is_owned_claim h d n (i, option_and_then (λ v. v) e)) at

no_less : (i : ℕ) → 0 + i ≡ i
no_less i = omega arith

pub tells-from : (h : HostState) → ClaimsAreOwned h → Tells (is_claimed h.kernel.devices) (owns h)
tells-from h own =
    record {
      found = λ d n is.
          let f = any-found (is_owned_claim h d n) 0 h.interfaces (sym (own.claimed d n) ∙ is) in
          let passes : is_owned_claim h d n (f.place, f.item) ≡ true = ap (λ i. is_owned_claim h d n (i, f.item)) (sym (no_less f.place)) ∙ f.passes in
          (f.place, found-owns h d n f.place f.item f.at ∙ passes);
      known = λ d n i is.
          let o = owns-at h d n i is in
          own.claimed d n ∙ any-at (is_owned_claim h d n) 0 h.interfaces i (Some o.claim) (entry-at h.interfaces i o.claim o.at) (ap (λ i. is_owned_claim h d n (i, Some o.claim)) (no_less i) ∙ o.owned);
      apart = λ d n i j is as_.
          let o = owns-at h d n i is in
          let p = owns-at h d n j as_ in
          own.apart d n i j o.claim p.claim o.at p.at o.owned p.owned;
    }

pub tells-to : (h : HostState) → Tells (is_claimed h.kernel.devices) (owns h) → ClaimsAreOwned h
tells-to h tells =
    record {
      claimed = λ d n.
          alike (is_claimed h.kernel.devices d n) (has_owner h d n)
          (λ is.
          let f = tells.found d n is in
          let o = owns-at h d n f.0 f.1 in
          any-at (is_owned_claim h d n) 0 h.interfaces f.0 (Some o.claim) (entry-at h.interfaces f.0 o.claim o.at) (ap (λ i. is_owned_claim h d n (i, Some o.claim)) (no_less f.0) ∙ o.owned))
          (λ is.
          let f = any-found (is_owned_claim h d n) 0 h.interfaces is in
          let passes : is_owned_claim h d n (f.place, f.item) ≡ true = ap (λ i. is_owned_claim h d n (i, f.item)) (sym (no_less f.place)) ∙ f.passes in
          tells.known d n f.place (found-owns h d n f.place f.item f.at ∙ passes));
      apart = λ d n i j a b at_a at_b own_a own_b. tells.apart d n i j (at-owns h d n i a at_a ∙ own_a) (at-owns h d n j b at_b ∙ own_b);
    }

-- one pair of numbers, or another
cases_pair : (D N d n : ℕ) → ((D ≡ d) × (N ≡ n)) ⊎ (D ≡ d → N ≢ n)
cases_pair D N d n =
    elim (cases_eq D d) [
      | inl same ↦ elim (cases_eq N n) [ inl alike ↦ inl (same, alike) | inr other ↦ inr (λ z. other) ]
      | inr apart ↦ inr (λ z. absurd (apart z))
    ]

at_pair : (P : ℕ → ℕ → Type 0) (D N d n : ℕ) → D ≡ d → N ≡ n → P D N → P d n
at_pair P D N d n device number p = subst (λ x. P d x) number (subst (λ x. P x N) device p)

pub named : (D N d n : ℕ) → D ≡ d → N ≡ n → (D == d && N == n) ≡ true
named D N d n device number = rw (eq-eqb D d device, eq-eqb N n number) refl

pub unnamed : (D N d n : ℕ) → (D ≡ d → N ≢ n) → (D == d && N == n) ≡ false
unnamed D N d n other =
    elim (cases_eq D d) [
      | inl same ↦ rw (eq-eqb D d same, ne_eqb N n (other same)) refl
      | inr apart ↦ rw (ne_eqb D d apart) refl
    ]

-- nothing comes and nothing goes
pub tells-same : (c e : ℕ → ℕ → Bool) (o p : ℕ → ℕ → ℕ → Bool) → ((d n : ℕ) → e d n ≡ c d n) → ((d n i : ℕ) → p d n i ≡ o d n i) → Tells c o → Tells e p
tells-same c e o p claims owners tells =
    record {
      found = λ d n is. let f = tells.found d n (sym (claims d n) ∙ is) in (f.0, owners d n f.0 ∙ f.1);
      known = λ d n i is. claims d n ∙ tells.known d n i (sym (owners d n i) ∙ is);
      apart = λ d n i j is as_. tells.apart d n i j (sym (owners d n i) ∙ is) (sym (owners d n j) ∙ as_);
    }

-- the key I comes to own interface N of device D
pub record Gains (c e : ℕ → ℕ → Bool) (o p : ℕ → ℕ → ℕ → Bool) (D N I : ℕ) : Type 0 where
  pub free : c D N ≡ false
  pub none : (d n : ℕ) → o d n I ≡ false
  pub here : e D N ≡ true
  pub there : (d n : ℕ) → (D ≡ d → N ≢ n) → e d n ≡ c d n
  pub new : p D N I ≡ true
  pub only : (d n : ℕ) → (D ≡ d → N ≢ n) → p d n I ≡ false
  pub others : (d n i : ℕ) → i ≢ I → p d n i ≡ o d n i

module _ (c e : ℕ → ℕ → Bool) (o p : ℕ → ℕ → ℕ → Bool) (D N I : ℕ) (gains : Gains c e o p D N I) (tells : Tells c o) where
  gain-found : (d n : ℕ) → e d n ≡ true → (i : ℕ) × (p d n i ≡ true)
  gain-found d n is =
      elim (cases_pair D N d n) [
        | inl same ↦ (I, at_pair (λ d n. p d n I ≡ true) D N d n same.0 same.1 gains.new)
        | inr other ↦
            let f = tells.found d n (sym (gains.there d n other) ∙ is) in
            (f.0, gains.others d n f.0 (λ z. not-both (o d n I) (ap (o d n) (sym z) ∙ f.1) (gains.none d n)) ∙ f.1)
      ]

  gain-known : (d n i : ℕ) → p d n i ≡ true → e d n ≡ true
  gain-known d n i is =
      elim (cases_pair D N d n) [
        | inl same ↦ at_pair (λ d n. e d n ≡ true) D N d n same.0 same.1 gains.here
        | inr other ↦
            elim (cases_eq i I) [
              | inl new ↦ absurd (not-both (p d n I) (ap (p d n) (sym new) ∙ is) (gains.only d n other))
              | inr apart ↦ gains.there d n other ∙ tells.known d n i (sym (gains.others d n i apart) ∙ is)
            ]
      ]

  -- no other key owns it
  alone : (d n i : ℕ) → i ≢ I → p d n i ≡ true → p d n I ≡ true → ⊥
  alone d n i apart is new =
      elim (cases_pair D N d n) [
        | inl same ↦
            let old : o d n i ≡ true = sym (gains.others d n i apart) ∙ is in
            not-both (c d n) (tells.known d n i old) (at_pair (λ d n. c d n ≡ false) D N d n same.0 same.1 gains.free)
        | inr other ↦ not-both (p d n I) new (gains.only d n other)
      ]

  gain-apart : (d n i j : ℕ) → p d n i ≡ true → p d n j ≡ true → i ≡ j
  gain-apart d n i j is as_ =
      elim (cases_eq i I) [
        | inl i_new ↦
            elim (cases_eq j I) [
              | inl j_new ↦ i_new ∙ sym j_new
              | inr j_old ↦ absurd (alone d n j j_old as_ (ap (p d n) (sym i_new) ∙ is))
            ]
        | inr i_old ↦
            elim (cases_eq j I) [
              | inl j_new ↦ absurd (alone d n i i_old is (ap (p d n) (sym j_new) ∙ as_))
              | inr j_old ↦ tells.apart d n i j (sym (gains.others d n i i_old) ∙ is) (sym (gains.others d n j j_old) ∙ as_)
            ]
      ]

  pub tells-gain : Tells e p
  tells-gain = record { found = gain-found; known = gain-known; apart = gain-apart }

-- the key I owns interface N of device D no more
pub record Loses (c e : ℕ → ℕ → Bool) (o p : ℕ → ℕ → ℕ → Bool) (D N I : ℕ) : Type 0 where
  pub was : o D N I ≡ true
  pub only : (d n : ℕ) → (D ≡ d → N ≢ n) → o d n I ≡ false
  pub gone : (d n : ℕ) → p d n I ≡ false
  pub here : e D N ≡ false
  pub there : (d n : ℕ) → (D ≡ d → N ≢ n) → e d n ≡ c d n
  pub others : (d n i : ℕ) → i ≢ I → p d n i ≡ o d n i

module _ (c e : ℕ → ℕ → Bool) (o p : ℕ → ℕ → ℕ → Bool) (D N I : ℕ) (loses : Loses c e o p D N I) (tells : Tells c o) where
  lost-found : (d n : ℕ) → e d n ≡ true → (i : ℕ) × (p d n i ≡ true)
  lost-found d n is =
      elim (cases_pair D N d n) [
        | inl same ↦ absurd (not-both (e d n) is (at_pair (λ d n. e d n ≡ false) D N d n same.0 same.1 loses.here))
        | inr other ↦
            let f = tells.found d n (sym (loses.there d n other) ∙ is) in
            (f.0, loses.others d n f.0 (λ z. not-both (o d n I) (ap (o d n) (sym z) ∙ f.1) (loses.only d n other)) ∙ f.1)
      ]

  stays : (d n i : ℕ) → p d n i ≡ true → i ≢ I
  stays d n i is z = not-both (p d n I) (ap (p d n) (sym z) ∙ is) (loses.gone d n)

  owned : (d n i : ℕ) → p d n i ≡ true → o d n i ≡ true
  owned d n i is = sym (loses.others d n i (stays d n i is)) ∙ is

  lost-known : (d n i : ℕ) → p d n i ≡ true → e d n ≡ true
  lost-known d n i is =
      elim (cases_pair D N d n) [
        | inl same ↦ absurd (stays d n i is (tells.apart d n i I (owned d n i is) (at_pair (λ d n. o d n I ≡ true) D N d n same.0 same.1 loses.was)))
        | inr other ↦ loses.there d n other ∙ tells.known d n i (owned d n i is)
      ]

  pub tells-loss : Tells e p
  tells-loss = record { found = lost-found; known = lost-known; apart = λ d n i j is as_. tells.apart d n i j (owned d n i is) (owned d n j as_) }
