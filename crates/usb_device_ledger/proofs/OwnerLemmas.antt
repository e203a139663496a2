-- The counts and the bits of owners.
use Rattle.std.proofs.Common.{ℕ, zero, suc, arith, ◌≡◌, ◌≢◌, ◌<◌, ◌+◌, ◌-◌, Bool, true, false, cond, List, [], ◌∷◌, ◌++◌, length, map, set, take, get_or, slice_get, Option, Some, None, inl, inr, refl, sym, ◌∙◌, ap, subst}
use Rattle.std.specs.Prelude.{◌||◌, ◌&&◌, ◌==◌, not, nat_lt, option_and_then, IsSome}
use Rattle.std.specs.List.{count_by, list_any, All}
use Rattle.std.specs.Prelude.{◌%◌, ◌/◌}
use Rattle.usb_device_ledger.specs.Owners.{shares_bit, is_of}
use Rattle.std.specs.Option.{option_map, ForSome}
use Rattle.std.proofs.lemmas.Option.{none-some, same_Some, slice_get-get_or}
use Rattle.std.specs.FinSet as bits
use Rattle.std.specs.Ordering.{nat_cmp}
use Rattle.std.specs.Cmp.{unsigned_tied}
use Rattle.std.proofs.lemmas.Cmp.{nat_cmp_total}
use Rattle.std.proofs.lemmas.Bool.{cases_Bool, cases_eq, eq-eqb, ne_eqb, lt-ltb}
use Rattle.std.proofs.lemmas.List.{map-set}
use Rattle.std.proofs.lemmas.List.Elements.{All-set, All-get_or, All-append}
use Rattle.std.proofs.lemmas.List.Sums.{sum_by-cons}
use Rattle.std.proofs.lemmas.Grind.{common_steps}
use Rattle.usb_desc.specs.BitSet.{bit_of, members}
use Rattle.usb_device_tables.specs.History.{value_at}
use Rattle.usb_device_tables.proofs.ValueLemmas.{last-of, take-others, value-of_last, value-within, some-of, is-some, value-put, value-taken, value-push_cases, value-past, value-push, value-map, value-set_other, set-value_same, set-set, there-put}
use Rattle.usb_device_ledger.specs.declared.owners.Claim.{Claim}
use Rattle.usb_device_ledger.specs.declared.owners.EndpointRow.{EndpointRow}
use Rattle.usb_device_ledger.specs.declared.owners.EndedClaim.{EndedClaim}
use Rattle.usb_device_ledger.specs.Entries.{ClaimedInterface}
use Rattle.usb_device_ledger.specs.Releases.{without_claim}
use Rattle.usb_device_ledger.specs.OwnerRows.{CountsOf, AreOwned, row_interface, is_alive, is_alive_on, is_alive_with, uses_row, one_if, IsSmall, AreAlive, rows_left, claim_state, has_owners, claim_if, with_row, is_counted, row_gone, claim_gone}
use Rattle.usb_device_ledger.proofs.ListLemmas.{slice-value, read-value, count-set, count-same, count-less, count-push, count-some, any-count}

-- a row with the same interface and address, that lives or not like the other
pub record Like (e next : EndpointRow) : Type 0 where
  pub interface : row_interface next ≡ row_interface e
  pub address : next.address ≡ e.address

same_alive : (i : ℕ) (e next : EndpointRow) → Like e next → is_alive e ≡ true → is_alive next ≡ true → is_alive_on i (Some next) ≡ is_alive_on i (Some e)
same_alive i e next like was is = rw (was, is, like.interface) refl

same_with : (i bit : ℕ) (e next : EndpointRow) → Like e next → is_alive e ≡ true → is_alive next ≡ true → is_alive_with i bit (Some next) ≡ is_alive_with i bit (Some e)
same_with i bit e next like was is = rw (was, is, like.interface, like.address) refl

dead_on : (i : ℕ) (e : EndpointRow) → is_alive e ≡ false → is_alive_on i (Some e) ≡ false
dead_on i e is = rw is (elim (is_of i (row_interface e)) as (λ v. v && false ≡ false) [ true ↦ refl | false ↦ refl ])

dead_with : (i bit : ℕ) (e : EndpointRow) → is_alive e ≡ false → is_alive_with i bit (Some e) ≡ false
dead_with i bit e is = rw (dead_on i e is) refl

apart_on : (i j : ℕ) (e : EndpointRow) → row_interface e ≡ Some j → i ≢ j → is_alive_on i (Some e) ≡ false
apart_on i j e on apart = rw (on, ne_eqb j i (λ z. apart (sym z))) refl

apart_with : (i bit j : ℕ) (e : EndpointRow) → row_interface e ≡ Some j → i ≢ j → is_alive_with i bit (Some e) ≡ false
apart_with i bit j e on apart = rw (apart_on i j e on apart) refl

none_on : (i : ℕ) (e : EndpointRow) → row_interface e ≡ None → is_alive_on i (Some e) ≡ false
none_on i e on = rw on refl

none_with : (i bit : ℕ) (e : EndpointRow) → row_interface e ≡ None → is_alive_with i bit (Some e) ≡ false
none_with i bit e on = rw on refl

alive_on : (j : ℕ) (e : EndpointRow) → row_interface e ≡ Some j → is_alive e ≡ true → is_alive_on j (Some e) ≡ true
alive_on j e on was = rw (on, was, eq-eqb j j refl) refl

alive_with : (bit j : ℕ) (e : EndpointRow) → row_interface e ≡ Some j → is_alive e ≡ true → is_alive_with j bit (Some e) ≡ (bit_of e.address == bit)
alive_with bit j e on was = rw (alive_on j e on was) refl

all-place : (P : Option EndpointRow → Type 0) (rows : List (Option EndpointRow)) (k : ℕ) (e : Option EndpointRow) → All P rows → k < length rows → e ≡ get_or rows k e → P e
all-place P rows k e all within at = rw at (All-get_or P rows k e within all)

module _ (claims : List (Option Claim)) (rows : List (Option EndpointRow)) (k : ℕ) (e next : EndpointRow) (counts : CountsOf claims rows) (there : value_at rows k ≡ Some e) (was : is_alive e ≡ true) (like : Like e next) where
  within : k < length rows
  within = value-within rows k e there

  at : Some e ≡ get_or rows k (Some e)
  at = read-value rows k e there

  small-next : next.address < 256
  small-next = rw like.address (all-place IsSmall rows k (Some e) counts.small within at)

  -- its interface is there
  pub placed-e : (j : ℕ) → row_interface e ≡ Some j → IsSome (value_at claims j)
  placed-e j on = counts.placed k j e there was on

  placed-next : (m i : ℕ) (f : EndpointRow) → value_at (set rows k (Some next)) m ≡ Some f → is_alive f ≡ true → row_interface f ≡ Some i → IsSome (value_at claims i)
  placed-next m i f there alive on =
      elim (value-put rows k m next f there) [
        | inl w ↦ placed-e i (sym like.interface ∙ ap row_interface (sym w.1) ∙ on)
        | inr w ↦ counts.placed m i f w.1 alive on
      ]

  -- an endpoint lives on
  pub CountsOf-kept : is_alive next ≡ true → CountsOf claims (set rows k (Some next))
  CountsOf-kept is =
      record {
        living = λ i c here. counts.living i c here ∙ sym (count-same (is_alive_on i) rows k (Some e) (Some next) within at (same_alive i e next like was is));
        used = λ i c bit here. count-same (is_alive_with i bit) rows k (Some e) (Some next) within at (same_with i bit e next like was is) ∙ counts.used i c bit here;
        placed = placed-next;
        small = All-set IsSmall rows k (Some next) small-next counts.small;
      }

  -- a control endpoint lives no more
  pub CountsOf-dropped : row_interface e ≡ None → CountsOf claims (set rows k (Some next))
  CountsOf-dropped on =
      record {
        living = λ i c here. counts.living i c here ∙ sym (count-same (is_alive_on i) rows k (Some e) (Some next) within at (none_on i next (like.interface ∙ on) ∙ sym (none_on i e on)));
        used = λ i c bit here. count-same (is_alive_with i bit) rows k (Some e) (Some next) within at (none_with i bit next (like.interface ∙ on) ∙ sym (none_with i bit e on)) ∙ counts.used i c bit here;
        placed = placed-next;
        small = All-set IsSmall rows k (Some next) small-next counts.small;
      }

  pub some-living : (j : ℕ) → row_interface e ≡ Some j → (claim : Claim) → value_at claims j ≡ Some claim → is_alive next ≡ false → 0 < claim.living
  some-living j on claim here is =
      let counted = counts.living j claim here in
      let fewer = count-less (is_alive_on j) rows k (Some e) (Some next) within at (alive_on j e on was) (dead_on j next is) in
      omega (arith, counted, fewer)

  module _ (j : ℕ) (on : row_interface e ≡ Some j) (claim lost : Claim) (here : value_at claims j ≡ Some claim) (living : lost.living ≡ claim.living - 1) (bits_are : members lost.bits ≡ bits.remove (members claim.bits) (bit_of e.address)) (is : is_alive next ≡ false) where
    pub lost-living : lost.living ≡ count_by (is_alive_on j) (set rows k (Some next))
    lost-living =
        let counted = counts.living j claim here in
        let fewer = count-less (is_alive_on j) rows k (Some e) (Some next) within at (alive_on j e on was) (dead_on j next is) in
        omega (arith, living, counted, fewer)

    removed : (bit : ℕ) → bits.contains (members lost.bits) bit ≡ (not (bit == bit_of e.address) && bits.contains (members claim.bits) bit)
    removed bit = rw bits_are (bits.contains-remove nat_cmp_total (members claim.bits) (bit_of e.address) bit ∙ ap (λ b. not b && bits.contains (members claim.bits) bit) (unsigned_tied bit (bit_of e.address)))

    lost-used : (bit : ℕ) → count_by (is_alive_with j bit) (set rows k (Some next)) ≡ one_if (bits.contains (members lost.bits) bit)
    lost-used bit =
        let counted = counts.used j claim bit here in
        let change = count-set (is_alive_with j bit) rows k (Some e) (Some next) within at in
        let none : one_if (is_alive_with j bit (Some next)) ≡ 0 = ap one_if (dead_with j bit next is) in
        elim (cases_eq bit (bit_of e.address)) [
          | inl same ↦
              let old : one_if (is_alive_with j bit (Some e)) ≡ 1 = ap one_if (alive_with bit j e on was ∙ eq-eqb (bit_of e.address) bit (sym same)) in
              let gone : bits.contains (members lost.bits) bit ≡ false = removed bit ∙ rw (eq-eqb bit (bit_of e.address) same) refl in
              rw gone (elim (cases_Bool (bits.contains (members claim.bits) bit)) [
                | inl yes_ ↦ let one : one_if (bits.contains (members claim.bits) bit) ≡ 1 = ap one_if yes_ in omega (arith, counted, change, none, old, one)
                | inr no_ ↦ let zero_ : one_if (bits.contains (members claim.bits) bit) ≡ 0 = ap one_if no_ in absurd (omega (arith, counted, change, none, old, zero_))
              ])
          | inr apart ↦
              let old : one_if (is_alive_with j bit (Some e)) ≡ 0 = ap one_if (alive_with bit j e on was ∙ ne_eqb (bit_of e.address) bit (λ z. apart (sym z))) in
              let gone : bits.contains (members lost.bits) bit ≡ bits.contains (members claim.bits) bit = removed bit ∙ rw (ne_eqb bit (bit_of e.address) apart) refl in
              rw gone (omega (arith, counted, change, none, old))
        ]

    -- an endpoint lives no more
    pub CountsOf-gone : CountsOf (set claims j (Some lost)) (set rows k (Some next))
    CountsOf-gone =
        record {
          living = λ i c there.
              elim (value-put claims j i lost c there) [
                | inl w ↦ rw (w.0, w.1) lost-living
                | inr w ↦ counts.living i c w.1 ∙ sym (count-same (is_alive_on i) rows k (Some e) (Some next) within at (apart_on i j next (like.interface ∙ on) w.0 ∙ sym (apart_on i j e on w.0)))
              ];
          used = λ i c bit there.
              elim (value-put claims j i lost c there) [
                | inl w ↦ rw (w.0, w.1) (lost-used bit)
                | inr w ↦ count-same (is_alive_with i bit) rows k (Some e) (Some next) within at (apart_with i bit j next (like.interface ∙ on) w.0 ∙ sym (apart_with i bit j e on w.0)) ∙ counts.used i c bit w.1
              ];
          placed = λ m i f there alive on. there-put claims j i lost (placed-next m i f there alive on);
          small = All-set IsSmall rows k (Some next) small-next counts.small;
        }

-- a row that lives no more goes
pub CountsOf-taken : (claims : List (Option Claim)) (rows : List (Option EndpointRow)) (k : ℕ) (e : EndpointRow) → CountsOf claims rows → value_at rows k ≡ Some e → is_alive e ≡ false → CountsOf claims (set rows k None)
CountsOf-taken claims rows k e counts there is =
    let within = value-within rows k e there in
    let at = read-value rows k e there in
    record {
      living = λ i c here. counts.living i c here ∙ sym (count-same (is_alive_on i) rows k (Some e) None within at (sym (dead_on i e is)));
      used = λ i c bit here. count-same (is_alive_with i bit) rows k (Some e) None within at (sym (dead_with i bit e is)) ∙ counts.used i c bit here;
      placed = λ m i f at alive on. counts.placed m i f (value-taken rows k m f at).1 alive on;
      small = All-set IsSmall rows k None tt counts.small;
    }

pub alive-put : (rows : List (Option EndpointRow)) (k : ℕ) (next : EndpointRow) → AreAlive rows → is_alive next ≡ true → AreAlive (set rows k (Some next))
alive-put rows k next alive is m f at = elim (value-put rows k m next f at) [ inl w ↦ ap is_alive w.1 ∙ is | inr w ↦ alive m f w.1 ]

pub alive-taken : (rows : List (Option EndpointRow)) (k : ℕ) → AreAlive rows → AreAlive (set rows k None)
alive-taken rows k alive m f at = alive m f (value-taken rows k m f at).1

pub alive-push : (rows : List (Option EndpointRow)) (e : EndpointRow) → AreAlive rows → is_alive e ≡ true → AreAlive (rows ++ Some e ∷ [])
alive-push rows e alive is m f at = elim (value-push_cases rows e f m at) [ inl w ↦ ap is_alive w.1 ∙ is | inr w ↦ alive m f w.1 ]

-- a row that was written stays or goes
pub rows_left-alive : (rows : List (Option EndpointRow)) (k : ℕ) (e : EndpointRow) → value_at rows k ≡ Some e → is_alive e ≡ true → rows_left rows k ≡ rows
unfolding rows_left
rows_left-alive rows k e at is = rw (at, is) refl

pub rows_left-dead : (rows : List (Option EndpointRow)) (k : ℕ) (e : EndpointRow) → value_at rows k ≡ Some e → is_alive e ≡ false → rows_left rows k ≡ set rows k None
unfolding rows_left
rows_left-dead rows k e at is = rw (at, is) refl

-- the row of a key, written
pub with_row-at : (rows : List (Option EndpointRow)) (k : ℕ) (e : EndpointRow) (o : Bool) (n : ℕ) → value_at rows k ≡ Some e → with_row rows k o n ≡ set rows k (Some (record e { is_open = o; tickets = n }))
unfolding with_row
with_row-at rows k e o n at = rw at refl

abbrev ended : ClaimedInterface → EndedClaim
ended c = record { device = c.device; number = c.number; reattach = c.reattach }

-- an interface of an endpoint that lives has an owner
is_counted-alive : (rows : List (Option EndpointRow)) (k : ℕ) (e : EndpointRow) (j : ℕ) (c : ClaimedInterface) → value_at rows k ≡ Some e → row_interface e ≡ Some j → is_alive e ≡ true → is_counted rows j c ≡ true
is_counted-alive rows k e j c at on is =
    let some : 0 < count_by (is_alive_on j) rows = count-some (is_alive_on j) rows k (Some e) (slice-value rows k e at) (alive_on j e on is) in
    rw (lt-ltb 0 (count_by (is_alive_on j) rows) some) (elim (nat_lt 0 c.handles) as (λ b. b || true ≡ true) [ true ↦ refl | false ↦ refl ])

pub row_gone-alive : (interfaces : List (Option ClaimedInterface)) (rows : List (Option EndpointRow)) (k : ℕ) (e : EndpointRow) → value_at rows k ≡ Some e → is_alive e ≡ true → row_gone interfaces rows k ≡ None
unfolding row_gone claim_gone
row_gone-alive interfaces rows k e at is = rw at (by (row_interface e) refl)
  where
    of : (j : ℕ) → row_interface e ≡ Some j → (o : Option ClaimedInterface) → option_and_then (λ (c : ClaimedInterface). cond (is_counted rows j c) None (Some (ended c))) o ≡ None
    of j on None = refl
    of j on (Some c) = rw (is_counted-alive rows k e j c at on is) refl

    by : (o : Option ℕ) → row_interface e ≡ o → option_and_then (λ j. option_and_then (λ (c : ClaimedInterface). cond (is_counted rows j c) None (Some (ended c))) (value_at interfaces j)) o ≡ None
    by None on = refl
    by (Some j) on = of j on (value_at interfaces j)

-- the claim of an interface that counts right
pub claim_gone-at : (interfaces : List (Option ClaimedInterface)) (rows : List (Option EndpointRow)) (i : ℕ) (c : Claim) → value_at interfaces i ≡ Some (claim_state c) → c.living ≡ count_by (is_alive_on i) rows → claim_gone interfaces rows i ≡ claim_if c
unfolding claim_gone
claim_gone-at interfaces rows i c at living = rw (at, living) refl

pub row_gone-control : (interfaces : List (Option ClaimedInterface)) (rows : List (Option EndpointRow)) (k : ℕ) (e : EndpointRow) → value_at rows k ≡ Some e → row_interface e ≡ None → row_gone interfaces rows k ≡ None
unfolding row_gone
row_gone-control interfaces rows k e at on = rw (at, on) refl

pub row_gone-dead : (interfaces : List (Option ClaimedInterface)) (rows : List (Option EndpointRow)) (k : ℕ) (e : EndpointRow) (j : ℕ) (c : Claim) → value_at rows k ≡ Some e → row_interface e ≡ Some j → value_at interfaces j ≡ Some (claim_state c) → c.living ≡ count_by (is_alive_on j) rows
    → row_gone interfaces rows k ≡ claim_if c
unfolding row_gone
row_gone-dead interfaces rows k e j c at on there living = rw (at, on) (claim_gone-at interfaces rows j c there living)

-- the state of what is there
pub state-at : (claims : List (Option Claim)) (i : ℕ) (c : Claim) → value_at claims i ≡ Some c → value_at (map (option_map claim_state) claims) i ≡ Some (claim_state c)
state-at claims i c at = value-map claim_state claims i ∙ ap (option_map claim_state) at

pub claim-there : (claims : List (Option Claim)) (i : ℕ) → IsSome (value_at (map (option_map claim_state) claims) i) → IsSome (value_at claims i)
claim-there claims i there = by (value_at claims i) (subst IsSome (value-map claim_state claims i) there)
  where
    by : (o : Option Claim) → IsSome (option_map claim_state o) → IsSome o
    by None some = some
    by (Some c) some = refl

-- a claim that is written back with the same state
pub states-kept : (claims : List (Option Claim)) (i : ℕ) (c next : Claim) → value_at claims i ≡ Some c → claim_state next ≡ claim_state c → map (option_map claim_state) (set claims i (Some next)) ≡ map (option_map claim_state) claims
states-kept claims i c next at same =
    map-set (option_map claim_state) claims i (Some next)
    ∙ ap (λ (s : ClaimedInterface). set (map (option_map claim_state) claims) i (Some s)) same
    ∙ set-value_same (map (option_map claim_state) claims) i (claim_state c) (state-at claims i c at)

pub states-without : (claims : List (Option Claim)) (o : Option ℕ) (r : Option EndedClaim) → map (option_map claim_state) (without_claim claims o r) ≡ without_claim (map (option_map claim_state) claims) o r
states-without claims o None = refl
states-without claims None (Some r) = refl
states-without claims (Some i) (Some r) = map-set (option_map claim_state) claims i None

-- a handle of an interface comes or goes
pub CountsOf-handle : (claims : List (Option Claim)) (rows : List (Option EndpointRow)) (i : ℕ) (claim next : Claim) → CountsOf claims rows → value_at claims i ≡ Some claim → next.living ≡ claim.living → next.bits ≡ claim.bits → CountsOf (set claims i (Some next)) rows
CountsOf-handle claims rows i claim next counts here living bits_are =
    record {
      living = λ j c there. elim (value-put claims i j next c there) [ inl w ↦ rw (w.0, w.1) (living ∙ counts.living i claim here) | inr w ↦ counts.living j c w.1 ];
      used = λ j c bit there.
          elim (value-put claims i j next c there) [
            | inl w ↦ rw (w.0, w.1) (counts.used i claim bit here ∙ ap (λ b. one_if (bits.contains (members b) bit)) (sym bits_are))
            | inr w ↦ counts.used j c bit w.1
          ];
      placed = λ m j e there alive on. there-put claims i j next (counts.placed m j e there alive on);
      small = counts.small;
    }

-- an interface that no endpoint lives on goes
CountsOf-without : (claims : List (Option Claim)) (rows : List (Option EndpointRow)) (i : ℕ) (claim : Claim) → CountsOf claims rows → value_at claims i ≡ Some claim → claim.living ≡ 0 → CountsOf (set claims i None) rows
CountsOf-without claims rows i claim counts here none =
    record {
      living = λ j c there. counts.living j c (value-taken claims i j c there).1;
      used = λ j c bit there. counts.used j c bit (value-taken claims i j c there).1;
      placed = λ m j e there alive on.
          elim (cases_eq i j) [
            | inl same ↦
                let some = count-some (is_alive_on i) rows m (Some e) (slice-value rows m e there) (alive_on i e (on ∙ ap Some (sym same)) alive) in
                absurd (omega (arith, some, none, counts.living i claim here))
            | inr apart ↦ subst IsSome (sym (value-set_other claims i j None apart)) (counts.placed m j e there alive on)
          ];
      small = counts.small;
    }

or-false : (a b : Bool) → (a || b) ≡ false → b ≡ false
or-false true b is = absurd (cc)
or-false false b is = is

positive-none : (n : ℕ) → nat_lt 0 n ≡ false → n ≡ 0
positive-none n is = grind (arith, common_steps)

-- a claim ends where it has no owner
pub ended-some : (c : Claim) → has_owners c ≡ true → claim_if c ≡ None
ended-some c owned = rw owned refl

pub ended-none : (c : Claim) → has_owners c ≡ false → claim_if c ≡ Some (record { device = c.device; number = c.number; reattach = c.reattach })
ended-none c free = rw free refl

pub CountsOf-ended : (claims : List (Option Claim)) (rows : List (Option EndpointRow)) (i : ℕ) (c : Claim) → CountsOf claims rows → value_at claims i ≡ Some c → CountsOf (without_claim claims (Some i) (claim_if c)) rows
CountsOf-ended claims rows i c counts here =
    elim (cases_Bool (has_owners c)) [
      | inl owned ↦ rw (ended-some c owned) counts
      | inr free ↦ rw (ended-none c free) (CountsOf-without claims rows i c counts here (positive-none c.living (or-false (nat_lt 0 c.handles) (nat_lt 0 c.living) free)))
    ]

-- what is there has an owner
pub owned-put : (claims : List (Option Claim)) (i : ℕ) (next : Claim) → AreOwned claims → has_owners next ≡ true → AreOwned (set claims i (Some next))
owned-put claims i next owned some j c there = elim (value-put claims i j next c there) [ inl w ↦ ap has_owners w.1 ∙ some | inr w ↦ owned j c w.1 ]

pub owned-push : (claims : List (Option Claim)) (next : Claim) → AreOwned claims → has_owners next ≡ true → AreOwned (claims ++ Some next ∷ [])
owned-push claims next owned some j c there = elim (value-push_cases claims next c j there) [ inl w ↦ ap has_owners w.1 ∙ some | inr w ↦ owned j c w.1 ]

pub owned-ended : (claims : List (Option Claim)) (i : ℕ) (next : Claim) → AreOwned claims → AreOwned (without_claim (set claims i (Some next)) (Some i) (claim_if next))
owned-ended claims i next owned =
    elim (cases_Bool (has_owners next)) [
      | inl some ↦ rw (ended-some next some) (owned-put claims i next owned some)
      | inr free ↦ rw (ended-none next free, set-set claims i (Some next) None) (λ j c there. owned j c (value-taken claims i j c there).1)
    ]

count-none : {X : Type 0} (p : X → Bool) (xs : List X) → All (λ x. p x ≡ false) xs → count_by p xs ≡ 0
count-none p [] none = refl
count-none p (x ∷ xs) none =
    let here : one_if (p x) ≡ 0 = ap one_if (none 0 x (omega arith)) in
    let IH = count-none p xs (λ k d l. none (suc k) d (omega arith)) in
    omega (arith, here, IH, sum_by-cons (λ y. cond (p y) 1 0) x xs)

-- an interface that is new has no endpoint
no-row : (claims : List (Option Claim)) (rows : List (Option EndpointRow)) → CountsOf claims rows → (k : ℕ) (e : EndpointRow) → value_at rows k ≡ Some e → is_alive_on (length claims) (Some e) ≡ false
no-row claims rows counts k e there = elim (cases_Bool (is_alive_on (length claims) (Some e))) [
  | inl yes_ ↦ absurd (by (row_interface e) refl (is_alive e) refl yes_)
  | inr no_ ↦ no_
]
  where
    by : (o : Option ℕ) → row_interface e ≡ o → (b : Bool) → is_alive e ≡ b → (is_of (length claims) o && b) ≡ true → ⊥
    by None on b alive yes_ = absurd (cc)
    by (Some j) on false alive yes_ = absurd (elim (is_of (length claims) (Some j)) as (λ v. (v && false) ≡ true → ⊥) [ true ↦ λ z. absurd (cc) | false ↦ λ z. absurd (cc) ] yes_)
    by (Some j) on true alive yes_ =
        elim (cases_eq j (length claims)) [
          | inl same ↦
              let some = some-of (value_at claims j) (counts.placed k j e there alive on) in
              none-some some.0 (sym (value-past claims j (omega (arith, same))) ∙ some.1)
          | inr apart ↦ absurd (let no_ : is_of (length claims) (Some j) ≡ false = ne_eqb j (length claims) apart in let both = rw no_ at yes_ in cc)
        ]

no-place : (claims : List (Option Claim)) (rows : List (Option EndpointRow)) → CountsOf claims rows → (k : ℕ) (o : Option EndpointRow) → slice_get rows k ≡ Some o → is_alive_on (length claims) o ≡ false
no-place claims rows counts k None at = refl
no-place claims rows counts k (Some e) at = no-row claims rows counts k e (ap (option_and_then (λ (o : Option EndpointRow). o)) at)

no-rows : (claims : List (Option Claim)) (rows : List (Option EndpointRow)) → CountsOf claims rows → All (λ o. is_alive_on (length claims) o ≡ false) rows
no-rows claims rows counts = λ k d l. no-place claims rows counts k (get_or rows k d) (slice_get-get_or rows k d l)

no-bit : (i bit : ℕ) (o : Option EndpointRow) → is_alive_on i o ≡ false → is_alive_with i bit o ≡ false
no-bit i bit None none = refl
no-bit i bit (Some e) none = rw none refl

no-bits : (claims : List (Option Claim)) (rows : List (Option EndpointRow)) (bit : ℕ) → CountsOf claims rows → All (λ o. is_alive_with (length claims) bit o ≡ false) rows
no-bits claims rows bit counts = λ k d l. no-bit (length claims) bit (get_or rows k d) (no-rows claims rows counts k d l)

pub CountsOf-claim : (claims : List (Option Claim)) (rows : List (Option EndpointRow)) (fresh : Claim) → CountsOf claims rows → fresh.living ≡ 0 → members fresh.bits ≡ bits.empty → CountsOf (claims ++ Some fresh ∷ []) rows
CountsOf-claim claims rows fresh counts living bits_are =
    record {
      living = λ j c there. elim (value-push_cases claims fresh c j there) [ inl w ↦ rw (w.0, w.1) (living ∙ sym (count-none (is_alive_on (length claims)) rows (no-rows claims rows counts))) | inr w ↦ counts.living j c w.1 ];
      used = λ j c bit there.
          elim (value-push_cases claims fresh c j there) [
            | inl w ↦ rw (w.0, w.1, bits_are, bits.contains-empty nat_cmp bit) (count-none (is_alive_with (length claims) bit) rows (no-bits claims rows bit counts))
            | inr w ↦ counts.used j c bit w.1
          ];
      placed = λ m j e there alive on.
          let c = some-of (value_at claims j) (counts.placed m j e there alive on) in
          is-some _ c.0 (value-push claims (Some fresh) j c.0 c.1);
      small = counts.small;
    }

All-one : (P : Option EndpointRow → Type 0) (x : Option EndpointRow) → P x → All P (x ∷ [])
All-one P x p zero d inside = p
All-one P x p (suc k) d inside = absurd (omega arith)

All-others : (P : Option EndpointRow → Type 0) (xs : List (Option EndpointRow)) (x : Option EndpointRow) → All P (xs ++ x ∷ []) → All P xs
All-others P [] x all k d inside = absurd (omega (arith, inside))
All-others P (y ∷ ys) x all zero d inside = all zero d (omega arith)
All-others P (y ∷ ys) x all (suc k) d inside = All-others P ys x (λ j c within. all (suc j) c (omega (arith, within))) k d (omega (arith, inside))

-- the rows with a new one
module _ (claims : List (Option Claim)) (rows : List (Option EndpointRow)) (e : EndpointRow) (counts : CountsOf claims rows) where
  placed-more : ((i : ℕ) → row_interface e ≡ Some i → IsSome (value_at claims i)) → (m i : ℕ) (f : EndpointRow) → value_at (rows ++ Some e ∷ []) m ≡ Some f → is_alive f ≡ true → row_interface f ≡ Some i → IsSome (value_at claims i)
  placed-more there m i f at alive on =
      elim (value-push_cases rows e f m at) [
        | inl w ↦ there i (ap row_interface (sym w.1) ∙ on)
        | inr w ↦ counts.placed m i f w.1 alive on
      ]

-- a control endpoint is opened
pub CountsOf-control : (claims : List (Option Claim)) (rows : List (Option EndpointRow)) (e : EndpointRow) → CountsOf claims rows → row_interface e ≡ None → e.address < 256 → CountsOf claims (rows ++ Some e ∷ [])
CountsOf-control claims rows e counts on small =
    record {
      living = λ i c here. let new : one_if (is_alive_on i (Some e)) ≡ 0 = ap one_if (none_on i e on) in omega (arith, counts.living i c here, new, count-push (is_alive_on i) rows (Some e));
      used = λ i c bit here. let new : one_if (is_alive_with i bit (Some e)) ≡ 0 = ap one_if (none_with i bit e on) in omega (arith, new, count-push (is_alive_with i bit) rows (Some e)) ∙ counts.used i c bit here;
      placed = placed-more claims rows e counts (λ i is. absurd (none-some i (sym on ∙ is)));
      small = All-append IsSmall rows (Some e ∷ []) counts.small (All-one IsSmall (Some e) small);
    }

-- the control endpoint that was opened last is taken back
none-row : (i : ℕ) (x : Option EndpointRow) → ForSome x (λ e. row_interface e ≡ None) → is_alive_on i x ≡ false
none-row i None on = refl
none-row i (Some e) on = none_on i e (on e refl)

none-row_with : (i bit : ℕ) (x : Option EndpointRow) → ForSome x (λ e. row_interface e ≡ None) → is_alive_with i bit x ≡ false
none-row_with i bit None on = refl
none-row_with i bit (Some e) on = none_with i bit e (on e refl)

CountsOf-others : (claims : List (Option Claim)) (rows : List (Option EndpointRow)) (x : Option EndpointRow) → CountsOf claims (rows ++ x ∷ []) → ForSome x (λ e. row_interface e ≡ None) → CountsOf claims rows
CountsOf-others claims rows x counts on =
    record {
      living = λ i c here. let last : one_if (is_alive_on i x) ≡ 0 = ap one_if (none-row i x on) in omega (arith, counts.living i c here, last, count-push (is_alive_on i) rows x);
      used = λ i c bit here. let last : one_if (is_alive_with i bit x) ≡ 0 = ap one_if (none-row_with i bit x on) in omega (arith, last, count-push (is_alive_with i bit) rows x) ∙ counts.used i c bit here;
      placed = λ m i f at alive on. counts.placed m i f (value-push rows x m f at) alive on;
      small = All-others IsSmall rows x counts.small;
    }

pub owners-taken_back : (claims : List (Option Claim)) (rows : List (Option EndpointRow)) → 0 < length rows → ForSome (value_at rows (length rows - 1)) (λ e. row_interface e ≡ None) → CountsOf claims rows → AreAlive rows
    → CountsOf claims (take (length rows - 1) rows) × AreAlive (take (length rows - 1) rows)
owners-taken_back claims rows some on counts alive =
    let r = last-of rows some in
    by r.0 r.1 (subst (λ xs. ForSome (value_at xs (length xs - 1)) (λ e. row_interface e ≡ None)) r.2 on) (subst (CountsOf claims) r.2 counts) (subst AreAlive r.2 alive) (ap (λ xs. take (length xs - 1) xs) r.2 ∙ take-others r.0 r.1)
  where
    by : (xs : List (Option EndpointRow)) (x : Option EndpointRow) → ForSome (value_at (xs ++ x ∷ []) (length (xs ++ x ∷ []) - 1)) (λ e. row_interface e ≡ None) → CountsOf claims (xs ++ x ∷ []) → AreAlive (xs ++ x ∷ [])
        → take (length rows - 1) rows ≡ xs → CountsOf claims (take (length rows - 1) rows) × AreAlive (take (length rows - 1) rows)
    by xs x on counts alive is =
        rw is (
          CountsOf-others claims xs x counts (subst (λ o. ForSome o (λ e. row_interface e ≡ None)) (value-of_last xs x) on),
          λ m e at. alive m e (value-push xs x m e at),
        )

-- an endpoint is opened, whose bit is free
module _ (claims : List (Option Claim)) (rows : List (Option EndpointRow)) (e : EndpointRow) (j : ℕ) (on : row_interface e ≡ Some j) (claim gained : Claim) (counts : CountsOf claims rows) (at : value_at claims j ≡ Some claim) (alive : is_alive e ≡ true) (small : e.address < 256)
    (living : gained.living ≡ claim.living + 1) (bits_are : members gained.bits ≡ bits.insert (members claim.bits) (bit_of e.address)) (unused : count_by (is_alive_with j (bit_of e.address)) rows ≡ 0) where
  inserted : (bit : ℕ) → bits.contains (members gained.bits) bit ≡ ((bit == bit_of e.address) || bits.contains (members claim.bits) bit)
  inserted bit = rw bits_are (bits.contains-insert nat_cmp_total (members claim.bits) (bit_of e.address) bit ∙ ap (λ b. b || bits.contains (members claim.bits) bit) (unsigned_tied bit (bit_of e.address)))

  gained-used : (bit : ℕ) → count_by (is_alive_with j bit) (rows ++ Some e ∷ []) ≡ one_if (bits.contains (members gained.bits) bit)
  gained-used bit =
      let counted = counts.used j claim bit at in
      let more = count-push (is_alive_with j bit) rows (Some e) in
      elim (cases_eq bit (bit_of e.address)) [
        | inl same ↦
            let new : one_if (is_alive_with j bit (Some e)) ≡ 1 = ap one_if (alive_with bit j e on alive ∙ eq-eqb (bit_of e.address) bit (sym same)) in
            let has : bits.contains (members gained.bits) bit ≡ true = inserted bit ∙ rw (eq-eqb bit (bit_of e.address) same) refl in
            let none : count_by (is_alive_with j bit) rows ≡ 0 = rw same unused in
            rw has (omega (arith, more, new, none))
        | inr apart ↦
            let new : one_if (is_alive_with j bit (Some e)) ≡ 0 = ap one_if (alive_with bit j e on alive ∙ ne_eqb (bit_of e.address) bit (λ z. apart (sym z))) in
            let has : bits.contains (members gained.bits) bit ≡ bits.contains (members claim.bits) bit = inserted bit ∙ rw (ne_eqb bit (bit_of e.address) apart) refl in
            rw has (omega (arith, more, new, counted))
      ]

  gained-living : gained.living ≡ count_by (is_alive_on j) (rows ++ Some e ∷ [])
  gained-living =
      let counted = counts.living j claim at in
      let new : one_if (is_alive_on j (Some e)) ≡ 1 = ap one_if (alive_on j e on alive) in
      omega (arith, living, counted, new, count-push (is_alive_on j) rows (Some e))

  other-living : (i : ℕ) → i ≢ j → count_by (is_alive_on i) (rows ++ Some e ∷ []) ≡ count_by (is_alive_on i) rows
  other-living i apart =
      let new : one_if (is_alive_on i (Some e)) ≡ 0 = ap one_if (apart_on i j e on apart) in omega (arith, new, count-push (is_alive_on i) rows (Some e))

  other-used : (i bit : ℕ) → i ≢ j → count_by (is_alive_with i bit) (rows ++ Some e ∷ []) ≡ count_by (is_alive_with i bit) rows
  other-used i bit apart =
      let new : one_if (is_alive_with i bit (Some e)) ≡ 0 = ap one_if (apart_with i bit j e on apart) in omega (arith, new, count-push (is_alive_with i bit) rows (Some e))

  pub CountsOf-row : CountsOf (set claims j (Some gained)) (rows ++ Some e ∷ [])
  CountsOf-row =
      record {
        living = λ i c there. elim (value-put claims j i gained c there) [ inl w ↦ rw (w.0, w.1) gained-living | inr w ↦ counts.living i c w.1 ∙ sym (other-living i w.0) ];
        used = λ i c bit there. elim (value-put claims j i gained c there) [ inl w ↦ rw (w.0, w.1) (gained-used bit) | inr w ↦ other-used i bit w.0 ∙ counts.used i c bit w.1 ];
        placed = λ m i f there lives on_. there-put claims j i gained (placed-more claims rows e counts (λ i is. is-some _ claim (ap (value_at claims) (same_Some i j (sym is ∙ on)) ∙ at)) m i f there lives on_);
        small = All-append IsSmall rows (Some e ∷ []) counts.small (All-one IsSmall (Some e) small);
      }

one_if-positive : (b : Bool) → nat_lt 0 (one_if b) ≡ b
one_if-positive true = refl
one_if-positive false = refl

-- whether a bit is in use
pub bit-used : (claims : List (Option Claim)) (rows : List (Option EndpointRow)) (i bit : ℕ) (claim : Claim) → CountsOf claims rows → value_at claims i ≡ Some claim → bits.contains (members claim.bits) bit ≡ nat_lt 0 (count_by (is_alive_with i bit) rows)
bit-used claims rows i bit claim counts at = rw (counts.used i claim bit at) (sym (one_if-positive (bits.contains (members claim.bits) bit)))

-- of addresses the bits tell which share one
pub bit_of-shares : (a b : ℕ) → a < 256 → b < 256 → shares_bit a b ≡ (bit_of a == bit_of b)
bit_of-shares a b small_a small_b =
    elim (cases_eq (bit_of a) (bit_of b)) [
      | inl same ↦
          let n : a % 16 ≡ b % 16 = omega arith in
          let d : a / 128 ≡ b / 128 = omega arith in
          rw (eq-eqb (bit_of a) (bit_of b) same, eq-eqb (a % 16) (b % 16) n, eq-eqb (a / 128) (b / 128) d) refl
      | inr apart ↦
          elim (cases_eq (a % 16) (b % 16)) [
            | inl n ↦
                elim (cases_eq (a / 128) (b / 128)) [
                  | inl d ↦ absurd (apart (omega arith))
                  | inr d ↦ rw (ne_eqb (bit_of a) (bit_of b) apart, eq-eqb (a % 16) (b % 16) n, ne_eqb (a / 128) (b / 128) d) refl
                ]
            | inr n ↦ rw (ne_eqb (bit_of a) (bit_of b) apart, ne_eqb (a % 16) (b % 16) n) refl
          ]
    ]

any-same : (p q : Option EndpointRow → Bool) (rows : List (Option EndpointRow)) → All (λ e. p e ≡ q e) rows → list_any p rows ≡ list_any q rows
any-same p q [] same = refl
any-same p q (e ∷ es) same = rw (same 0 e (omega arith), any-same p q es (λ k d l. same (suc k) d (omega arith))) refl

bit-same : (i address : ℕ) (o : Option EndpointRow) → IsSmall o → address < 256 → uses_row i address o ≡ is_alive_with i (bit_of address) o
bit-same i address None small fits = refl
bit-same i address (Some e) small fits = ap (λ b. is_alive_on i (Some e) && b) (bit_of-shares e.address address small fits)

pub rows-used : (rows : List (Option EndpointRow)) (i address : ℕ) → All IsSmall rows → address < 256 → list_any (uses_row i address) rows ≡ nat_lt 0 (count_by (is_alive_with i (bit_of address)) rows)
rows-used rows i address small fits =
    any-same (uses_row i address) (is_alive_with i (bit_of address)) rows (λ k d l. bit-same i address (get_or rows k d) (small k d l) fits)
    ∙ any-count (is_alive_with i (bit_of address)) rows

pub rows-unused : (rows : List (Option EndpointRow)) (i address : ℕ) → All IsSmall rows → address < 256 → list_any (uses_row i address) rows ≡ false → count_by (is_alive_with i (bit_of address)) rows ≡ 0
rows-unused rows i address small fits none = positive-none _ (sym (rows-used rows i address small fits) ∙ none)

-- an interface with an open handle, or with an endpoint that lives, has an owner
pub handle-owns : (c : Claim) → 0 < c.handles → has_owners c ≡ true
handle-owns c some = rw (lt-ltb 0 c.handles some) refl

pub living-owns : (c : Claim) → 0 < c.living → has_owners c ≡ true
living-owns c some = rw (lt-ltb 0 c.living some) (elim (nat_lt 0 c.handles) as (λ b. (b || true) ≡ true) [ true ↦ refl | false ↦ refl ])
