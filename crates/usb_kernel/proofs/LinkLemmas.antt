-- What the records are when neighbours change.
use Rattle.std.proofs.Common.{◌≡◌, ◌≢◌, ◌⊎◌, ℕ, List, length, set, Option, Some, None, slice_get, refl, sym, ap, ◌∙◌, inl, inr}
use Rattle.std.specs.Option.{option_map}
use Rattle.std.proofs.lemmas.Option.{none-some, same_Some, slice_get_within}
use Rattle.std.proofs.lemmas.List.{length-set}
use Rattle.usb_kernel.specs.declared.record.Link.{Link}
use Rattle.usb_kernel.specs.declared.record.Record.{Record}
use Rattle.usb_kernel.specs.declared.record.Chain.{Chain}
use Rattle.usb_kernel.specs.declared.record.Chain.TheVariants.{Queue, Unreaped}
use Rattle.usb_kernel.specs.Links.{link_of, with_before, with_after, changed}
use Rattle.usb_kernel.specs.Chains.{links}
use Rattle.usb_kernel.proofs.Places.{slice_get-set_same, slice_get-set_other}
use Rattle.usb_kernel.proofs.ChangedLemmas.{changed-here, changed-none}
use Rattle.usb_kernel.proofs.ChainLemmas.{some_or, AreRelinked}

-- a record is there, or none
pub record_or : (o : Option Record) → (o ≡ None) ⊎ ((r : Record) × (o ≡ Some r))
record_or None = inl refl
record_or (Some r) = inr (r, refl)

pub changed-absent : (f : Record → Record) (records : List Record) (t : ℕ) → slice_get records t ≡ None → changed f records (Some t) ≡ records
unfolding changed
changed-absent f records t none = rw none refl

pub length-changed : (f : Record → Record) (records : List Record) (o : Option ℕ) → length (changed f records o) ≡ length records
length-changed f records None = ap length (changed-none f records)
length-changed f records (Some t) = elim (record_or (slice_get records t)) [
  | inl none ↦ ap length (changed-absent f records t none)
  | inr some ↦ ap length (changed-here f records t some.0 some.1) ∙ length-set records t (f some.0)
]

-- what was at a place where a record is now
pub changed-read : (f : Record → Record) (records : List Record) (o : Option ℕ) (k : ℕ) (now : Record) → slice_get (changed f records o) k ≡ Some now → (r : Record) × (slice_get records k ≡ Some r) × (o ≡ Some k → now ≡ f r) × (o ≢ Some k → now ≡ r)
changed-read f records None k now at = (now, sym (ap (λ rs. slice_get rs k) (changed-none f records)) ∙ at, λ z. absurd (none-some k z), λ _. refl)
changed-read f records (Some t) k now at = elim (record_or (slice_get records t)) [
  | inl none ↦
      let same = sym (ap (λ rs. slice_get rs k) (changed-absent f records t none)) ∙ at in
      (now, same, λ z. absurd (none-some now (sym none ∙ (ap (slice_get records) (number t k z) ∙ same))), λ _. refl)
  | inr some ↦
      let is = ap (λ rs. slice_get rs k) (changed-here f records t some.0 some.1) in
      elim (some_or (Some t) k) [
        | inl same ↦
            let e = number t k same in
            let here = slice_get-set_same records t (f some.0) (slice_get_within records t some.0 some.1) in
            (some.0, ap (slice_get records) (sym e) ∙ some.1, λ _. same_Some now (f some.0) (sym at ∙ (is ∙ (ap (slice_get (set records t (f some.0))) (sym e) ∙ here))), λ not. absurd (not same))
        | inr other ↦
            let here = slice_get-set_other records t k (f some.0) (λ z. other (ap (λ (n : ℕ). Some n) (sym z))) in
            (now, sym here ∙ (sym is ∙ at), λ z. absurd (other z), λ _. refl)
      ]
]
  where
    number : (i j : ℕ) → Some i ≡ Some j → i ≡ j
    number i j same = same_Some i j same

-- neighbours change in one list alone
pub link-before : (chain : Chain) (b : Option ℕ) (r : Record) → link_of chain (with_before chain b r) ≡ record (link_of chain r) { before = b }
link-before Queue b r = refl
link-before Unreaped b r = refl

pub link-after : (chain : Chain) (a : Option ℕ) (r : Record) → link_of chain (with_after chain a r) ≡ record (link_of chain r) { after = a }
link-after Queue a r = refl
link-after Unreaped a r = refl

pub row-before : (chain : Chain) (b : Option ℕ) (r : Record) → (with_before chain b r).row ≡ r.row
row-before Queue b r = refl
row-before Unreaped b r = refl

pub row-after : (chain : Chain) (a : Option ℕ) (r : Record) → (with_after chain a r).row ≡ r.row
row-after Queue a r = refl
row-after Unreaped a r = refl

-- the neighbours of t have each other
abbrev pub relinked_records : Chain → Link → List Record → List Record
relinked_records chain link records = changed (with_before chain link.before) (changed (with_after chain link.after) records link.before) link.after

pub link_there : (chain : Chain) (records : List Record) (k : ℕ) (l : Link) → links chain records k ≡ Some l → (r : Record) × (slice_get records k ≡ Some r) × (link_of chain r ≡ l)
link_there chain records k l at = elim (record_or (slice_get records k)) [
  | inl none ↦ absurd (none-some l (sym (ap (option_map (link_of chain)) none) ∙ at))
  | inr some ↦ (some.0, some.1, same_Some (link_of chain some.0) l (sym (ap (option_map (link_of chain)) some.1) ∙ at))
]

pub relinked : (chain : Chain) (link : Link) (records : List Record) → AreRelinked link (links chain records) (links chain (relinked_records chain link records))
relinked chain link records k l' at =
    let there = link_there chain (relinked_records chain link records) k l' at in
    let outer = changed-read (with_before chain link.before) (changed (with_after chain link.after) records link.before) link.after k there.0 there.1 in
    let inner = changed-read (with_after chain link.after) records link.before k outer.0 outer.1 in
    let l = link_of chain inner.0 in (
      l,
      ap (option_map (link_of chain)) inner.1,
      record {
        after_new = λ z. sym (ap (λ (x : Link). x.after) there.2) ∙ (after-outer link.after k outer.0 there.0 outer.2 outer.3 ∙ (ap (λ (x : Record). (link_of chain x).after) (inner.2 z) ∙ ap (λ (x : Link). x.after) (link-after chain link.after inner.0)));
        after_same = λ z. sym (ap (λ (x : Link). x.after) there.2) ∙ (after-outer link.after k outer.0 there.0 outer.2 outer.3 ∙ ap (λ (x : Record). (link_of chain x).after) (inner.3 z));
        before_new = λ z. sym (ap (λ (x : Link). x.before) there.2) ∙ (ap (λ (x : Record). (link_of chain x).before) (outer.2 z) ∙ ap (λ (x : Link). x.before) (link-before chain link.before outer.0));
        before_same = λ z. sym (ap (λ (x : Link). x.before) there.2) ∙ (ap (λ (x : Record). (link_of chain x).before) (outer.3 z) ∙ before-inner link.before k inner.0 outer.0 inner.2 inner.3);
      },
    )
  where
    after-outer : (o : Option ℕ) (k : ℕ) (r now : Record) → (o ≡ Some k → now ≡ with_before chain link.before r) → (o ≢ Some k → now ≡ r) → (link_of chain now).after ≡ (link_of chain r).after
    after-outer o k r now hit miss = elim (some_or o k) [
      | inl z ↦ ap (λ (x : Record). (link_of chain x).after) (hit z) ∙ ap (λ (x : Link). x.after) (link-before chain link.before r)
      | inr z ↦ ap (λ (x : Record). (link_of chain x).after) (miss z)
    ]

    before-inner : (o : Option ℕ) (k : ℕ) (r now : Record) → (o ≡ Some k → now ≡ with_after chain link.after r) → (o ≢ Some k → now ≡ r) → (link_of chain now).before ≡ (link_of chain r).before
    before-inner o k r now hit miss = elim (some_or o k) [
      | inl z ↦ ap (λ (x : Record). (link_of chain x).before) (hit z) ∙ ap (λ (x : Link). x.before) (link-after chain link.after r)
      | inr z ↦ ap (λ (x : Record). (link_of chain x).before) (miss z)
    ]
