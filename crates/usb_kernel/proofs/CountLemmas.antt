-- The walk over the list of the open tickets of an endpoint, which counts them.
use Rattle.std.proofs.Common.{◌≡◌, ℕ, ◌+◌, ◌<◌, ◌≤◌, zero, suc, true, false, List, [], ◌∷◌, length, take, Option, Some, None, slice_get, refl, sym, ap, ◌∙◌, arith, inl, inr, Bool}
use Rattle.std.specs.List.{count_by}
use Rattle.std.proofs.lemmas.Option.{none-some, same_Some}
use Rattle.std.proofs.lemmas.Bool.{cases_Bool}
use Rattle.usb_kernel.specs.declared.slot.TicketRow.{TicketRow}
use Rattle.usb_kernel.specs.declared.record.Record.{Record}
use Rattle.usb_kernel.specs.declared.lists.TicketLists.{TicketLists}
use Rattle.usb_kernel.specs.Rows.{is_open_row}
use Rattle.usb_kernel.specs.Queues.{ends_at}
use Rattle.usb_kernel.specs.Chains.{IsFirst, row_passes}
use Rattle.usb_kernel.specs.Listed.{AreListed, rows_of}
use Rattle.usb_kernel.proofs.RecordLemmas.{row-at}
use Rattle.usb_kernel.proofs.WalkLemmas.{number_if, count-cons, passes-rows, passes_by, way_left, way-less}

-- a test fails in all rows from k on that stand below t
abbrev FailsBetween : (TicketRow → Bool) → List TicketRow → ℕ → ℕ → Type 0
FailsBetween p rows k t = (i : ℕ) (r : TicketRow) → k ≤ i → i < t → slice_get rows i ≡ Some r → p r ≡ false

-- the next row that passes counts one more
count-next : (p : TicketRow → Bool) (rows : List TicketRow) (k t : ℕ) (r : TicketRow) → k ≤ t → FailsBetween p rows k t → slice_get rows t ≡ Some r → p r ≡ true → count_by p (take (suc t) rows) ≡ count_by p (take k rows) + 1
count-next p [] k t r before none at passes = absurd (none-some r at)
count-next p (x ∷ xs) zero zero r before none at passes = rw (same_Some x r at, passes) refl
count-next p (x ∷ xs) zero (suc t) r before none at passes =
    let more : count_by p (take (suc (suc t)) (x ∷ xs)) ≡ number_if (p x) + count_by p (take (suc t) xs) = count-cons p x (take (suc t) xs) in
    let fails : number_if (p x) ≡ 0 = ap number_if (none 0 x (omega arith) (omega arith) refl) in
    let rest = count-next p xs zero t r (omega arith) (λ i y from below here. none (suc i) y (omega arith) (omega (arith, below)) here) at passes in
    omega (arith, more, fails, rest)
count-next p (x ∷ xs) (suc k) zero r before none at passes = absurd (omega (arith, before))
count-next p (x ∷ xs) (suc k) (suc t) r before none at passes =
    let more : count_by p (take (suc (suc t)) (x ∷ xs)) ≡ number_if (p x) + count_by p (take (suc t) xs) = count-cons p x (take (suc t) xs) in
    let less : count_by p (take (suc k) (x ∷ xs)) ≡ number_if (p x) + count_by p (take k xs) = count-cons p x (take k xs) in
    let rest = count-next p xs k t r (omega (arith, before)) (λ i y from below here. none (suc i) y (omega (arith, from)) (omega (arith, below)) here) at passes in
    omega (arith, more, less, rest)

-- rows that fail count nothing
count-end : (p : TicketRow → Bool) (rows : List TicketRow) (k : ℕ) → ((i : ℕ) (r : TicketRow) → k ≤ i → slice_get rows i ≡ Some r → p r ≡ false) → count_by p rows ≡ count_by p (take k rows)
count-end p [] zero none = refl
count-end p [] (suc k) none = refl
count-end p (x ∷ xs) zero none =
    let all : count_by p (x ∷ xs) ≡ number_if (p x) + count_by p xs = count-cons p x xs in
    let fails : number_if (p x) ≡ 0 = ap number_if (none 0 x (omega arith) refl) in
    omega (arith, all, fails, count-end p xs zero (λ i y from here. none (suc i) y (omega arith) here))
count-end p (x ∷ xs) (suc k) none =
    let all : count_by p (x ∷ xs) ≡ number_if (p x) + count_by p xs = count-cons p x xs in
    let some : count_by p (take (suc k) (x ∷ xs)) ≡ number_if (p x) + count_by p (take k xs) = count-cons p x (take k xs) in
    omega (arith, all, some, count-end p xs k (λ i y from here. none (suc i) y (omega (arith, from)) here))

-- the walk stands at the first open ticket from k on: the open rows before k are counted, by one look-up each
pub record HasCounted (d e : ℕ) (records : List Record) (next : Option ℕ) (start steps count : ℕ) : Type 0 where
  pub k : ℕ
  pub here : IsFirst (row_passes (is_open_row d e) records) k next
  pub counted : count ≡ count_by (is_open_row d e) (take k (rows_of records))
  pub few : count ≤ k
  pub looks : steps ≡ start + count

pub count-start : (d e : ℕ) (records : List Record) (lists : TicketLists) (start : ℕ) → AreListed records lists → HasCounted d e records (ends_at lists.queues d e).first start start 0
count-start d e records lists start listed = record {
  k = 0;
  here = (listed.queues d e).first;
  counted = refl;
  few = omega arith;
  looks = omega arith;
}

-- a row that passes is of a ticket in the list
passes-from : (p : TicketRow → Bool) (records : List Record) (i : ℕ) (r : TicketRow) → slice_get (rows_of records) i ≡ Some r → p r ≡ true → row_passes p records i ≡ true
passes-from p records i r at passes = passes-rows p records i ∙ (ap (passes_by p) at ∙ passes)

module _ (d e : ℕ) (records : List Record) (lists : TicketLists) (listed : AreListed records lists) (start steps count : ℕ) where
  module _ (t : ℕ) (w : HasCounted d e records (Some t) start steps count) where
    pub count-inside : t < length records
    count-inside = (listed.queues d e).within t (w.here.passes t refl).1

    pub count-far : count ≤ t
    count-far = omega (arith, w.few, (w.here.passes t refl).0)

    module _ (r : Record) (at : slice_get records t ≡ Some r) where
      opens : is_open_row d e r.row ≡ true
      opens = sym (passes-rows (is_open_row d e) records t ∙ ap (passes_by (is_open_row d e)) (row-at records t r at)) ∙ (w.here.passes t refl).1

      between : FailsBetween (is_open_row d e) (rows_of records) w.k t
      between i x from below here = elim (cases_Bool (is_open_row d e x)) [
        | inl passes ↦
            let least = w.here.least i from (passes-from (is_open_row d e) records i x here passes) in
            absurd (omega (arith, same_Some t least.0 least.1, least.2, below))
        | inr fails ↦ fails
      ]

      pub count-on : HasCounted d e records r.queue.after start (steps + 1) (count + 1)
      count-on =
          let there = w.here.passes t refl in
          let first = (listed.queues d e).after t r.queue there.1 (rw at refl) in
          let one = count-next (is_open_row d e) (rows_of records) w.k t r.row there.0 between (row-at records t r at) opens in
          record {
            k = suc t;
            here = record {
              least = λ i from passes. first.least i (omega (arith, from)) passes;
              passes = λ j some. let p = first.passes j some in (omega (arith, p.0), p.1);
            };
            counted = omega (arith, w.counted, one);
            few = omega (arith, w.few, there.0);
            looks = omega (arith, w.looks);
          }

      pub count-less : way_left (length records) r.queue.after < way_left (length records) (Some t)
      count-less =
          let there = w.here.passes t refl in
          way-less (row_passes (is_open_row d e) records) (length records) t r.queue.after ((listed.queues d e).after t r.queue there.1 (rw at refl)) count-inside

  pub count-all : HasCounted d e records None start steps count → count ≡ count_by (is_open_row d e) (rows_of records)
  count-all w = w.counted ∙ sym (count-end (is_open_row d e) (rows_of records) w.k (λ i x from here. elim (cases_Bool (is_open_row d e x)) [
    | inl passes ↦ let least = w.here.least i from (passes-from (is_open_row d e) records i x here passes) in absurd (none-some least.0 least.1)
    | inr fails ↦ fails
  ]))
