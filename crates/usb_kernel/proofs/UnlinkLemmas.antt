-- A ticket is taken out of one of the lists.
use Rattle.std.proofs.Common.{◌≡◌, ◌≢◌, ℕ, ◌≤◌, Bool, true, false, List, length, set, Option, Some, None, slice_get, refl, sym, ap, ◌∙◌, arith, inl, inr}
use Rattle.std.specs.Prelude.{is_none, ◌==◌, if◌then◌else◌}
use Rattle.std.specs.Option.{option_map, option_map_or}
use Rattle.std.proofs.lemmas.Option.{none-some, same_Some, slice_get-map, slice_get_past, get_or_from_slice_get}
use Rattle.std.proofs.lemmas.List.{map-set, set-get_or}
use Rattle.std.proofs.lemmas.Bool.{cases_Bool, eqb-true, eq-eqb, false≢true}
use Rattle.usb_kernel.specs.declared.slot.TicketRow.{TicketRow}
use Rattle.usb_kernel.specs.declared.record.Link.{Link}
use Rattle.usb_kernel.specs.declared.record.Ends.{Ends}
use Rattle.usb_kernel.specs.declared.record.Record.{Record}
use Rattle.usb_kernel.specs.declared.record.Chain.{Chain}
use Rattle.usb_kernel.specs.Links.{link_of, with_link, with_before, with_after, changed, is_first, unlinked, ends_without, IsWithin}
use Rattle.usb_kernel.specs.Chains.{IsChained, IsWithout, links, row_passes}
use Rattle.usb_kernel.specs.Listed.{rows_of}
use Rattle.usb_kernel.proofs.ChangedLemmas.{changed-here, changed-none}
use Rattle.usb_kernel.proofs.ChainLemmas.{some_or, none_or, chained-pop, chained-middle, chained-other, before-t}
use Rattle.usb_kernel.proofs.ListedLemmas.{past_none}
use Rattle.usb_kernel.proofs.LinkLemmas.{record_or, changed-absent, changed-read, length-changed, row-before, row-after, relinked, relinked_records}

first_is : (ends : Ends) (t : ℕ) → is_first ends t ≡ true → ends.first ≡ Some t
first_is ends t is = at ends.first is
  where
    at : (o : Option ℕ) → option_map_or (λ first. first == t) o false ≡ true → o ≡ Some t
    at None is = absurd (false≢true is)
    at (Some j) is = ap (λ (n : ℕ). Some n) (eqb-true j t is)

first_not : (ends : Ends) (t : ℕ) → is_first ends t ≡ false → ends.first ≢ Some t
first_not ends t not same = false≢true (sym not ∙ (ap (λ o. option_map_or (λ first. first == t) o false) same ∙ eq-eqb t t refl))

-- the rows stay, and so do the tests of them
pub changed-rows : (f : Record → Record) (records : List Record) (o : Option ℕ) → ((r : Record) → (f r).row ≡ r.row) → rows_of (changed f records o) ≡ rows_of records
changed-rows f records None same = ap rows_of (changed-none f records)
changed-rows f records (Some t) same = elim (record_or (slice_get records t)) [
  | inl none ↦ ap rows_of (changed-absent f records t none)
  | inr some ↦
      ap rows_of (changed-here f records t some.0 some.1)
      ∙ (map-set (λ (r : Record). r.row) records t (f some.0) ∙ (ap (set (rows_of records) t) (same some.0) ∙ (sym (map-set (λ (r : Record). r.row) records t some.0) ∙ ap rows_of (set-back records t some.0 some.1))))
]
  where
    set-back : (records : List Record) (t : ℕ) (r : Record) → slice_get records t ≡ Some r → set records t r ≡ records
    set-back records t r at = rw (← get_or_from_slice_get records t r r at) (set-get_or records t r)

pub unlinked-rows : (chain : Chain) (t : ℕ) (link : Link) (ends : Ends) (records : List Record) → rows_of (unlinked chain t link ends records) ≡ rows_of records
unlinked-rows chain t link ends records = elim (cases_Bool (is_first ends t)) [
  | inl first ↦ rw first refl
  | inr other ↦ rw other (changed-rows (with_before chain link.before) (changed (with_after chain link.after) records link.before) link.after (row-before chain link.before) ∙ changed-rows (with_after chain link.after) records link.before (row-after chain link.after))
]

pub unlinked-length : (chain : Chain) (t : ℕ) (link : Link) (ends : Ends) (records : List Record) → length (unlinked chain t link ends records) ≡ length records
unlinked-length chain t link ends records = elim (cases_Bool (is_first ends t)) [
  | inl first ↦ rw first refl
  | inr other ↦ rw other (length-changed (with_before chain link.before) (changed (with_after chain link.after) records link.before) link.after ∙ length-changed (with_after chain link.after) records link.before)
]

passes-by_rows : (p : TicketRow → Bool) (records : List Record) (k : ℕ) → row_passes p records k ≡ option_map_or p (slice_get (rows_of records) k) false
passes-by_rows p records k = by_option (slice_get records k) ∙ sym (ap (λ o. option_map_or p o false) (slice_get-map (λ (r : Record). r.row) records k))
  where
    by_option : (o : Option Record) → option_map_or (λ (r : Record). p r.row) o false ≡ option_map_or p (option_map (λ (r : Record). r.row) o) false
    by_option None = refl
    by_option (Some r) = refl

pub rows-pass : (p : TicketRow → Bool) (before after : List Record) → rows_of after ≡ rows_of before → (k : ℕ) → row_passes p after k ≡ row_passes p before k
rows-pass p before after same k = passes-by_rows p after k ∙ (ap (λ rows. option_map_or p (slice_get rows k) false) same ∙ sym (passes-by_rows p before k))

module _ (chain : Chain) (p : ℕ → Bool) (t : ℕ) (link : Link) (ends : Ends) (records : List Record) (n : ℕ) (c : IsChained p (links chain records) n ends) (at : links chain records t ≡ Some link) where
  -- the list that it was in
  pub unlinked-chained : (q : ℕ → Bool) → IsWithout p q t → IsChained q (links chain (unlinked chain t link ends records)) n (ends_without t link ends)
  unlinked-chained q w = elim (cases_Bool (is_first ends t)) [
    | inl first ↦ rw first (chained-pop p q t w (links chain records) n ends link c at (first_is ends t first))
    | inr other ↦ rw other (middle other (if is_none link.after then record ends { last = link.before } else ends) (λ none. rw none refl) (λ some. last_stays link.after some))
  ]
    where
      last_stays : (o : Option ℕ) → o ≢ None → (if is_none o then record ends { last = link.before } else ends) ≡ ends
      last_stays None some = absurd (some refl)
      last_stays (Some a) some = refl

      middle : is_first ends t ≡ false → (e : Ends) → (link.after ≡ None → e ≡ record ends { last = link.before }) → (link.after ≢ None → e ≡ ends) → IsChained q (links chain (relinked_records chain link records)) n e
      middle other e end inner = elim (none_or link.after) [
        | inl none ↦ rw (end none) (chained-middle p q t w (links chain records) (links chain (relinked_records chain link records)) n ends link c at (first_not ends t other) (relinked chain link records) link.before (λ _. refl) (λ some. absurd (some none)))
        | inr some ↦ rw (inner (λ none. none-some some.0 (sym none ∙ some.1))) (chained-middle p q t w (links chain records) (links chain (relinked_records chain link records)) n ends link c at (first_not ends t other) (relinked chain link records) ends.last (λ none. absurd (none-some some.0 (sym none ∙ some.1))) (λ _. refl))
      ]

  -- the neighbours of a ticket that does not begin the list are tickets
  pub unlinked-within : (q : ℕ → Bool) → IsWithout p q t → is_first ends t ≡ false → IsWithin link n
  unlinked-within q w other = record {
    before = λ b is.
        let near = before-t p q t w (links chain records) (links chain (relinked_records chain link records)) n ends link c at (first_not ends t other) (relinked chain link records) in
        omega (arith, c.within near.0 near.3, same_Some near.0 b (sym near.1 ∙ is));
    after = λ a is. c.within a ((c.after t link w.there at).passes a is).1;
  }

  -- a list of other tickets
  pub unlinked-other : (q r : ℕ → Bool) (these : Ends) → IsWithout p q t → IsChained r (links chain records) n these → ((k : ℕ) → r k ≡ true → p k ≡ false) → IsChained r (links chain (unlinked chain t link ends records)) n these
  unlinked-other q r these w chained apart = elim (cases_Bool (is_first ends t)) [
    | inl first ↦ rw first chained
    | inr other ↦
        rw other (chained-other r (links chain records) (links chain (relinked_records chain link records)) n these link chained (relinked chain link records) (λ k passes. (
          λ same.
              let b = before-t p q t w (links chain records) (links chain (relinked_records chain link records)) n ends link c at (first_not ends t other) (relinked chain link records) in
              let is : b.0 ≡ k = same_Some b.0 k (sym b.1 ∙ same) in
              false≢true (sym (apart k passes) ∙ (ap p (sym is) ∙ b.3)),
          λ same. false≢true (sym (apart k passes) ∙ ((c.after t link w.there at).passes k same).1),
        )))
  ]

beyond : (f : Record → Record) (records : List Record) (o : Option ℕ) (k : ℕ) → slice_get (changed f records o) k ≡ None → length records ≤ k
beyond f records o k none = omega (arith, past_none (changed f records o) k none, length-changed f records o)

pub changed-links : (other : Chain) (f : Record → Record) (records : List Record) (o : Option ℕ) → ((r : Record) → link_of other (f r) ≡ link_of other r) → (k : ℕ) → links other (changed f records o) k ≡ links other records k
changed-links other f records o same k = elim (record_or (slice_get (changed f records o) k)) [
  | inl none ↦ ap (option_map (link_of other)) none ∙ sym (ap (option_map (link_of other)) (slice_get_past records k (beyond f records o k none)))
  | inr some ↦
      let was = changed-read f records o k some.0 some.1 in
      ap (option_map (link_of other)) some.1 ∙ (ap (λ (l : Link). Some l) (elim (some_or o k) [ inl hit ↦ ap (link_of other) (was.2 hit) ∙ same was.0 | inr miss ↦ ap (link_of other) (was.3 miss) ]) ∙ sym (ap (option_map (link_of other)) was.1))
]

-- where no neighbour is written, nothing changes
pub unlinked-links : (chain other : Chain) (t : ℕ) (link : Link) (ends : Ends) (records : List Record) → ((l : Link) (r : Record) → link_of other (with_link chain l r) ≡ link_of other r) → (k : ℕ) → links other (unlinked chain t link ends records) k ≡ links other records k
unlinked-links chain other t link ends records kept k = elim (cases_Bool (is_first ends t)) [
  | inl first ↦ rw first refl
  | inr not ↦ rw not (changed-links other (with_before chain link.before) (changed (with_after chain link.after) records link.before) link.after (λ r. kept _ r) k ∙ changed-links other (with_after chain link.after) records link.before (λ r. kept _ r) k)
]
