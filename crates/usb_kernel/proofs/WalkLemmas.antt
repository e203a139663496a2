-- The walk of an unplug over the list of the tickets that are not reaped.
use Rattle.std.proofs.Common.{◌≡◌, ℕ, ◌+◌, ◌-◌, ◌*◌, ◌<◌, ◌≤◌, zero, suc, Bool, true, false, List, [], ◌∷◌, length, take, map, set, Option, Some, None, slice_get, refl, sym, ap, ◌∙◌, arith, inl, inr, cond}
use Rattle.std.specs.Prelude.{is_some, is_none, ◌==◌, ◌&&◌}
use Rattle.std.specs.Option.{option_map, option_map_or}
use Rattle.std.specs.List.{All, count_by, sum_by}
use Rattle.std.proofs.lemmas.Option.{none-some, same_Some, slice_get_within, slice_get-map}
use Rattle.std.proofs.lemmas.List.{length-set}
use Rattle.std.proofs.lemmas.List.Sums.{sum_by-cons}
use Rattle.std.proofs.lemmas.Bool.{cases_eq, cases_lt, cases_Bool, false≢true}
use Rattle.usb_kernel.specs.declared.slot.TicketRow.{TicketRow}
use Rattle.usb_kernel.specs.declared.record.Record.{Record}
use Rattle.usb_kernel.specs.declared.lists.TicketLists.{TicketLists}
use Rattle.usb_kernel.specs.Rows.{IsRoomy, is_unreaped_row, row_unplugged, owed}
use Rattle.usb_kernel.specs.Chains.{IsFirst, row_passes}
use Rattle.usb_kernel.specs.Listed.{AreListed, rows_of}
use Rattle.usb_kernel.proofs.Places.{slice_get-set_same, slice_get-set_other}
use Rattle.usb_kernel.proofs.StepLemmas.{All-slice_get}
use Rattle.usb_kernel.proofs.Unplugs.{unplugged-finished}
use Rattle.usb_kernel.proofs.RecordLemmas.{rows-length, row-at}

abbrev pub number_if : Bool → ℕ
number_if b = cond b 1 0

pub count-cons : (p : TicketRow → Bool) (x : TicketRow) (xs : List TicketRow) → count_by p (x ∷ xs) ≡ number_if (p x) + count_by p xs
count-cons p x xs = sum_by-cons (λ r. number_if (p r)) x xs

-- a row that passes counts
count-take : (p : TicketRow → Bool) (rows : List TicketRow) (k t : ℕ) (r : TicketRow) → k ≤ t → slice_get rows t ≡ Some r → p r ≡ true → count_by p (take k rows) + 1 ≤ count_by p (take (suc t) rows)
count-take p [] k t r before at passes = absurd (none-some r at)
count-take p (x ∷ xs) zero zero r before at passes = rw (same_Some x r at, passes) (omega arith)
count-take p (x ∷ xs) zero (suc t) r before at passes =
    let more : count_by p (take (suc (suc t)) (x ∷ xs)) ≡ number_if (p x) + count_by p (take (suc t) xs) = count-cons p x (take (suc t) xs) in
    omega (arith, more, count-take p xs zero t r (omega arith) at passes)
count-take p (x ∷ xs) (suc k) zero r before at passes = absurd (omega arith)
count-take p (x ∷ xs) (suc k) (suc t) r before at passes =
    let more : count_by p (take (suc (suc t)) (x ∷ xs)) ≡ number_if (p x) + count_by p (take (suc t) xs) = count-cons p x (take (suc t) xs) in
    let less : count_by p (take (suc k) (x ∷ xs)) ≡ number_if (p x) + count_by p (take k xs) = count-cons p x (take k xs) in
    omega (arith, more, less, count-take p xs k t r (omega arith) at passes)

count-all : (p : TicketRow → Bool) (rows : List TicketRow) (k : ℕ) → count_by p (take k rows) ≤ count_by p rows
count-all p [] zero = omega arith
count-all p [] (suc k) = omega arith
count-all p (x ∷ xs) zero = omega arith
count-all p (x ∷ xs) (suc k) =
    let some : count_by p (take (suc k) (x ∷ xs)) ≡ number_if (p x) + count_by p (take k xs) = count-cons p x (take k xs) in
    let all : count_by p (x ∷ xs) ≡ number_if (p x) + count_by p xs = count-cons p x xs in
    omega (arith, some, all, count-all p xs k)

-- lists with the same elements
same_places : {X : Type 0} (xs ys : List X) → ((i : ℕ) → slice_get xs i ≡ slice_get ys i) → xs ≡ ys
same_places [] [] same = refl
same_places [] (y ∷ ys) same = absurd (none-some y (same 0))
same_places (x ∷ xs) [] same = absurd (none-some x (sym (same 0)))
same_places (x ∷ xs) (y ∷ ys) same = rw (same_Some x y (same 0), same_places xs ys (λ i. same (suc i))) refl

-- there is a record at each place
pub record_there : (records : List Record) (t : ℕ) → t < length records → (r : Record) × (slice_get records t ≡ Some r)
record_there [] t inside = absurd (omega arith)
record_there (r ∷ records) zero inside = (r, refl)
record_there (r ∷ records) (suc t) inside = record_there records t (omega arith)

-- how far a walk has to go
abbrev pub way_left : ℕ → Option ℕ → ℕ
way_left n None = 0
way_left n (Some t) = suc n - t

-- it has less to go from the next one
pub way-less : (p : ℕ → Bool) (n t : ℕ) (o : Option ℕ) → IsFirst p (t + 1) o → t < n → way_left n o < way_left n (Some t)
way-less p n t None first within = omega arith
way-less p n t (Some j) first within = let far = first.passes j refl in omega arith

-- the walk stands at the first ticket from k on that is not reaped: the device is gone for the rows before k, and those from k on are
-- as they were. There were at most three look-ups for each ticket that was passed
pub record HasUnplugged (d : ℕ) (rows : List TicketRow) (records : List Record) (lists : TicketLists) (next : Option ℕ) (start steps freed : ℕ) : Type 0 where
  pub k : ℕ
  pub here : IsFirst (row_passes is_unreaped_row records) k next
  pub passed : (i : ℕ) → i < k → slice_get (rows_of records) i ≡ option_map (row_unplugged d) (slice_get rows i)
  pub ahead : (i : ℕ) → k ≤ i → slice_get (rows_of records) i ≡ slice_get rows i
  pub long : length records ≡ length rows
  pub listed : AreListed records lists
  pub roomy : All IsRoomy (rows_of records)
  pub places : sum_by owed (rows_of records) + freed ≡ sum_by owed rows
  pub few : freed ≤ k
  pub looks : steps ≤ start + 3 * count_by is_unreaped_row (take k rows)

-- a test of the row of a ticket
passes-at : (p : TicketRow → Bool) (records : List Record) (t : ℕ) (r : Record) → slice_get records t ≡ Some r → row_passes p records t ≡ p r.row
passes-at p records t r at = ap (λ o. option_map_or (λ (x : Record). p x.row) o false) at

-- it can be told by the rows
abbrev pub passes_by : (TicketRow → Bool) → Option TicketRow → Bool
passes_by p o = option_map_or p o false

pub passes-rows : (p : TicketRow → Bool) (records : List Record) (t : ℕ) → row_passes p records t ≡ passes_by p (slice_get (rows_of records) t)
passes-rows p records t =
    from-record (slice_get records t) ∙ ap (passes_by p) (sym (slice_get-map (λ (r : Record). r.row) records t))
  where
    from-record : (o : Option Record) → option_map_or (λ (x : Record). p x.row) o false ≡ passes_by p (option_map (λ (r : Record). r.row) o)
    from-record None = refl
    from-record (Some r) = refl

-- an unplug reaps nothing
unreaped-unplugged : (d : ℕ) (r : TicketRow) → is_unreaped_row (row_unplugged d r) ≡ is_unreaped_row r
unreaped-unplugged d r = elim (r.device == d && is_none r.status) as (λ v. is_unreaped_row (cond v (record r { status = Some 108 }) r) ≡ is_unreaped_row r) [ true ↦ refl | false ↦ refl ]

-- a row that is reaped is finished, so an unplug leaves it
reaped-stays : (d : ℕ) (r : TicketRow) → IsRoomy r → is_unreaped_row r ≡ false → row_unplugged d r ≡ r
reaped-stays d r roomy reaped = unplugged-finished d r (sym (finished r.status refl))
  where
    finished : (o : Option ℕ) → r.status ≡ o → is_some r.status ≡ true
    finished None none = absurd (false≢true (sym reaped ∙ (roomy none).0))
    finished (Some e) some = rw some refl

-- at the start
pub unplug-start : (d : ℕ) (records : List Record) (lists : TicketLists) (start : ℕ) → AreListed records lists → All IsRoomy (rows_of records) → HasUnplugged d (rows_of records) records lists lists.unreaped.first start start 0
unplug-start d records lists start listed roomy = record {
  k = 0;
  here = listed.unreaped.first;
  passed = λ i below. absurd (omega arith);
  ahead = λ i from. refl;
  long = sym (rows-length records);
  listed = listed;
  roomy = roomy;
  places = omega arith;
  few = omega arith;
  looks = omega arith;
}

-- the next ticket
module _ (d : ℕ) (rows : List TicketRow) (records : List Record) (lists : TicketLists) (t start steps freed : ℕ) (w : HasUnplugged d rows records lists (Some t) start steps freed) where
  pub unplug-inside : t < length records
  unplug-inside = w.listed.unreaped.within t (w.here.passes t refl).1

  pub unplug-far : freed ≤ t
  unplug-far = omega (arith, w.few, (w.here.passes t refl).0)

  module _ (all : All IsRoomy rows) (r : Record) (at : slice_get records t ≡ Some r) where
    opens : is_unreaped_row r.row ≡ true
    opens = sym (passes-at is_unreaped_row records t r at) ∙ (w.here.passes t refl).1

    was : slice_get rows t ≡ Some r.row
    was = sym (w.ahead t (w.here.passes t refl).0) ∙ row-at records t r at

    -- between the two, tickets are reaped
    between : (i : ℕ) → w.k ≤ i → i < t → (o : Option TicketRow) → slice_get rows i ≡ o → slice_get (rows_of records) i ≡ option_map (row_unplugged d) o
    between i from below None none = w.ahead i from ∙ none
    between i from below (Some x) some =
        let here : row_passes is_unreaped_row records i ≡ is_unreaped_row x = passes-rows is_unreaped_row records i ∙ ap (passes_by is_unreaped_row) (w.ahead i from ∙ some) in
        elim (cases_Bool (is_unreaped_row x)) [
          | inl waits ↦ let least = w.here.least i from (here ∙ waits) in absurd (omega (arith, same_Some t least.0 least.1, least.2, below))
          | inr reaped ↦ w.ahead i from ∙ (some ∙ ap (λ (y : TicketRow). Some y) (sym (reaped-stays d x (All-slice_get IsRoomy rows i x all some) reaped)))
        ]

    module _ (records' : List Record) (lists' : TicketLists) (written : rows_of records' ≡ set (rows_of records) t (row_unplugged d r.row)) where
      -- the same tickets are not reaped
      same-waits : (i : ℕ) → row_passes is_unreaped_row records' i ≡ row_passes is_unreaped_row records i
      same-waits i =
          passes-rows is_unreaped_row records' i
          ∙ (ap (λ rs. passes_by is_unreaped_row (slice_get rs i)) written
          ∙ (elim (cases_eq i t) [
            | inl same ↦
                ap (λ j. passes_by is_unreaped_row (slice_get (set (rows_of records) t (row_unplugged d r.row)) j)) same
                ∙ (ap (passes_by is_unreaped_row) (slice_get-set_same (rows_of records) t (row_unplugged d r.row) (slice_get_within (rows_of records) t r.row (row-at records t r at)))
                ∙ (unreaped-unplugged d r.row ∙ (sym (ap (passes_by is_unreaped_row) (row-at records t r at)) ∙ ap (λ j. passes_by is_unreaped_row (slice_get (rows_of records) j)) (sym same))))
            | inr other ↦ ap (passes_by is_unreaped_row) (slice_get-set_other (rows_of records) t i (row_unplugged d r.row) other)
          ]
          ∙ sym (passes-rows is_unreaped_row records i)))

      pub unplug-on : (now more : ℕ) → AreListed records' lists' → All IsRoomy (rows_of records') → sum_by owed (rows_of records') + more ≡ sum_by owed (rows_of records) → more ≤ 1 → now ≤ steps + 3 → HasUnplugged d rows records' lists' r.unreaped.after start now (freed + more)
      unplug-on now more listed roomy places few three =
          let there = w.here.passes t refl in
          let first = w.listed.unreaped.after t r.unreaped there.1 (rw at refl) in
          let suc_is : suc t ≡ t + 1 = omega arith in
          record {
            k = suc t;
            here = record {
              least = λ i from passes. first.least i (omega arith) (sym (same-waits i) ∙ passes);
              passes = λ j some. let p = first.passes j some in (omega (arith, p.0), same-waits j ∙ p.1);
            };
            passed = λ i below. ap (λ rs. slice_get rs i) written ∙ elim (cases_eq i t) [
              | inl same ↦ rw same (slice_get-set_same (rows_of records) t (row_unplugged d r.row) (slice_get_within (rows_of records) t r.row (row-at records t r at)) ∙ ap (option_map (row_unplugged d)) (sym was))
              | inr other ↦ slice_get-set_other (rows_of records) t i (row_unplugged d r.row) other ∙ elim (cases_lt i w.k) [
                | inl under ↦ w.passed i under
                | inr over ↦ between i over (omega (arith, below, other)) (slice_get rows i) refl
              ]
            ];
            ahead = λ i from. ap (λ rs. slice_get rs i) written ∙ (slice_get-set_other (rows_of records) t i (row_unplugged d r.row) (λ same. absurd (omega (arith, same, from))) ∙ w.ahead i (omega (arith, from, there.0)));
            long = omega (arith, rows-length records', ap length written, length-set (rows_of records) t (row_unplugged d r.row), rows-length records, w.long);
            listed = listed;
            roomy = roomy;
            places = omega (arith, places, w.places);
            few = omega (arith, w.few, few, there.0);
            looks = omega (arith, w.looks, three, count-take is_unreaped_row rows w.k t r.row there.0 was opens);
          }

    pub unplug-less : way_left (length rows) r.unreaped.after < way_left (length rows) (Some t)
    unplug-less =
        let there = w.here.passes t refl in
        way-less (row_passes is_unreaped_row records) (length rows) t r.unreaped.after (w.listed.unreaped.after t r.unreaped there.1 (rw at refl)) (omega (arith, unplug-inside, w.long))

-- at the end every row was passed
pub unplug-end : (d : ℕ) (rows : List TicketRow) (records : List Record) (lists : TicketLists) (start steps freed : ℕ) → All IsRoomy rows → HasUnplugged d rows records lists None start steps freed → (rows_of records ≡ map (row_unplugged d) rows) × (steps ≤ start + 3 * count_by is_unreaped_row rows)
unplug-end d rows records lists start steps freed all w = (
  same_places (rows_of records) (map (row_unplugged d) rows) (λ i. elim (cases_lt i w.k) [
    | inl under ↦ w.passed i under ∙ sym (slice_get-map (row_unplugged d) rows i)
    | inr over ↦ rest i over (slice_get rows i) refl ∙ sym (slice_get-map (row_unplugged d) rows i)
  ]),
  omega (arith, w.looks, count-all is_unreaped_row rows w.k),
)
  where
    rest : (i : ℕ) → w.k ≤ i → (o : Option TicketRow) → slice_get rows i ≡ o → slice_get (rows_of records) i ≡ option_map (row_unplugged d) (slice_get rows i)
    rest i from None none = rw none (w.ahead i from ∙ none)
    rest i from (Some x) some =
        let here : row_passes is_unreaped_row records i ≡ is_unreaped_row x = passes-rows is_unreaped_row records i ∙ ap (passes_by is_unreaped_row) (w.ahead i from ∙ some) in
        elim (cases_Bool (is_unreaped_row x)) [
          | inl waits ↦ let least = w.here.least i from (here ∙ waits) in absurd (none-some least.0 least.1)
          | inr reaped ↦ w.ahead i from ∙ (some ∙ (ap (λ (y : TicketRow). Some y) (sym (reaped-stays d x (All-slice_get IsRoomy rows i x all some) reaped)) ∙ sym (ap (option_map (row_unplugged d)) some)))
        ]
