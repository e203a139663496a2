-- The free slots of a pool.
use Rattle.std.proofs.Common.{◌≡◌, ◌≢◌, ◌⊎◌, ℕ, zero, suc, Bool, true, false, ◌+◌, ◌<◌, List, [], ◌∷◌, ◌++◌, length, map, set, get_or, Option, Some, None, slice_get, refl, sym, ap, ◌∙◌, arith, inl, inr, cond, subst}
use Rattle.std.specs.Prelude.{◌==◌, reverse}
use Rattle.std.specs.List.{count_by}
use Rattle.std.proofs.lemmas.Option.{none-some, same_Some, slice_get_within, slice_get-map, slice_get-get_or, get_or_from_slice_get}
use Rattle.std.proofs.lemmas.List.{length-set, length-append, reverse-append, set-get_or}
use Rattle.std.proofs.lemmas.List.Sums.{sum_by-set, sum_by-append, sum_by-cons}
use Rattle.std.proofs.lemmas.Bool.{cases_lt, eq-eqb, ne_eqb}
use Rattle.std.specs.Option.{option_map}
use Rattle.usb_device_ledger.specs.declared.pool.Slot.{Slot}
use Rattle.usb_device_ledger.specs.declared.pool.SlotKey.{SlotKey}
use Rattle.usb_device_ledger.specs.PoolFacts.{slot_pair}
use Rattle.usb_device_ledger.specs.Pools.{PoolState, AreFree, is_taken, slot_value, inserted, put_in, value_of, replaced, written, removed, without}
use Rattle.usb_kernel.proofs.Places.{slice_get-append_left, slice_get-append_seam, slice_get-set_same, slice_get-set_other}

-- where a place of a longer list is
in_longer : (free : List ℕ) (x j i : ℕ) → slice_get (free ++ x ∷ []) j ≡ Some i → (slice_get free j ≡ Some i) ⊎ ((j ≡ length free) × (i ≡ x))
in_longer free x j i at = elim (cases_lt j (length free)) [
  | inl under ↦ inl (sym (slice_get-append_left free (x ∷ []) j under) ∙ at)
  | inr over ↦
      let within = slice_get_within (free ++ x ∷ []) j i at in
      let is : j ≡ length free = omega (arith, within, over, length-append free (x ∷ [])) in
      inr (is, same_Some i x (sym at ∙ (ap (slice_get (free ++ x ∷ [])) is ∙ slice_get-append_seam free x)))
]

pub reverse-last : (free : List ℕ) (x : ℕ) → reverse (free ++ x ∷ []) ≡ x ∷ reverse free
reverse-last free x = reverse-append free (x ∷ [])

module _ {T : Type 0} where
  cond_same : (b : Bool) (o : Option T) → cond b o o ≡ o
  cond_same true o = refl
  cond_same false o = refl

  abbrev pub number_if : ℕ × Option T → ℕ
  number_if s = cond (is_taken s) 1 0

  value_part : (x y : ℕ × Option T) → Some x ≡ Some y → x.1 ≡ y.1
  value_part x y same = ap (λ (p : ℕ × Option T). p.1) (same_Some x y same)

  pub count-written : (slots : List (ℕ × Option T)) (i : ℕ) (was next : ℕ × Option T) → slice_get slots i ≡ Some was → count_by is_taken (set slots i next) + number_if was ≡ count_by is_taken slots + number_if next
  count-written slots i was next at =
      let here = ap number_if (get_or_from_slice_get slots i was was at) in
      omega (arith, sum_by-set number_if slots i next was (slice_get_within slots i was at), here)

  -- the free slot that is used next
  pub free-used : (slots : List (ℕ × Option T)) (rest : List ℕ) (slot g : ℕ) (v : T) → AreFree slots (rest ++ slot ∷ []) → AreFree (set slots slot (g, Some v)) rest
  free-used slots rest slot g v f =
      let last : slice_get (rest ++ slot ∷ []) (length rest) ≡ Some slot = slice_get-append_seam rest slot in
      let longer : (j i : ℕ) → slice_get rest j ≡ Some i → slice_get (rest ++ slot ∷ []) j ≡ Some i = λ j i at. slice_get-append_left rest (slot ∷ []) j (slice_get_within rest j i at) ∙ at in
      let was = f.vacant (length rest) slot last in
      record {
        vacant = λ j i at.
            let apart : i ≢ slot = λ z. absurd (omega (arith, f.once j (length rest) slot (longer j slot (at ∙ ap (λ (n : ℕ). Some n) z)) last, slice_get_within rest j i at)) in
            let old = f.vacant j i (longer j i at) in
            (old.0, slice_get-set_other slots slot i (g, Some v) apart ∙ old.1);
        once = λ j k i one two. f.once j k i (longer j i one) (longer k i two);
        counted = omega (arith, f.counted, length-append rest (slot ∷ []), length-set slots slot (g, Some v), count-written slots slot (was.0, None) (g, Some v) was.1);
      }

  -- a new slot
  pub free-none : (slots : List (ℕ × Option T)) (g : ℕ) (v : T) → AreFree slots [] → AreFree (slots ++ (g, Some v) ∷ []) []
  free-none slots g v f =
      let all : count_by is_taken (slots ++ (g, Some v) ∷ []) ≡ count_by is_taken slots + 1 =
      omega (arith, sum_by-append number_if slots ((g, Some v) ∷ []), sum_by-cons number_if (g, Some v) []) in
      record {
        vacant = λ j i at. absurd (none-some i at);
        once = λ j k i one two. absurd (none-some i one);
        counted = omega (arith, f.counted, all, length-append slots ((g, Some v) ∷ []));
      }

  -- a slot is freed
  pub freed : (slots : List (ℕ × Option T)) (free : List ℕ) (slot g : ℕ) (v : T) → AreFree slots free → slice_get slots slot ≡ Some (g, Some v) → AreFree (set slots slot (g, None)) (free ++ slot ∷ [])
  freed slots free slot g v f at =
      let apart : (j : ℕ) → slice_get free j ≢ Some slot = λ j here. let old = f.vacant j slot here in none-some v (value_part (old.0, None) (g, Some v) (sym old.1 ∙ at)) in
      record {
        vacant = λ j i there. elim (in_longer free slot j i there) [
          | inl here ↦
              let old = f.vacant j i here in
              (old.0, slice_get-set_other slots slot i (g, None) (λ z. apart j (here ∙ ap (λ (n : ℕ). Some n) z)) ∙ old.1)
          | inr last ↦ (g, ap (slice_get (set slots slot (g, None))) last.1 ∙ slice_get-set_same slots slot (g, None) (slice_get_within slots slot (g, Some v) at))
        ];
        once = λ j k i one two. elim (in_longer free slot j i one) [
          | inl here ↦ elim (in_longer free slot k i two) [
            | inl there ↦ f.once j k i here there
            | inr last ↦ absurd (apart j (here ∙ ap (λ (n : ℕ). Some n) last.1))
          ]
          | inr last ↦ elim (in_longer free slot k i two) [
            | inl there ↦ absurd (apart k (there ∙ ap (λ (n : ℕ). Some n) last.1))
            | inr also ↦ last.0 ∙ sym also.0
          ]
        ];
        counted = omega (arith, f.counted, length-append free (slot ∷ []), length-set slots slot (g, None), count-written slots slot (g, Some v) (g, None) at);
      }

  -- a value is replaced
  pub free-written : (slots : List (ℕ × Option T)) (free : List ℕ) (slot g : ℕ) (was v : T) → AreFree slots free → slice_get slots slot ≡ Some (g, Some was) → AreFree (set slots slot (g, Some v)) free
  free-written slots free slot g was v f at =
      record {
        vacant = λ j i there.
            let old = f.vacant j i there in
            let apart : i ≢ slot = λ z. none-some was (value_part (old.0, None) (g, Some was) (sym old.1 ∙ (ap (slice_get slots) z ∙ at))) in
            (old.0, slice_get-set_other slots slot i (g, Some v) apart ∙ old.1);
        once = f.once;
        counted = omega (arith, f.counted, length-set slots slot (g, Some v), count-written slots slot (g, Some was) (g, Some v) at);
      }

  -- the free slot that is used next has no value
  pub free-next : (slots : List (ℕ × Option T)) (rest : List ℕ) (slot : ℕ) → AreFree slots (rest ++ slot ∷ []) → (was : ℕ) × (slice_get slots slot ≡ Some (was, None))
  free-next slots rest slot f = f.vacant (length rest) slot (slice_get-append_seam rest slot)

  -- what a value that is put in changes: in a free slot
  pub count-used : (slots : List (ℕ × Option T)) (slot was g : ℕ) (v : T) → slice_get slots slot ≡ Some (was, None) → count_by is_taken (set slots slot (g, Some v)) ≡ count_by is_taken slots + 1
  count-used slots slot was g v at = omega (arith, count-written slots slot (was, None) (g, Some v) at)

  pub value-used : (slots : List (ℕ × Option T)) (slot was g : ℕ) (v : T) → slice_get slots slot ≡ Some (was, None) → slot_value (slice_get (set slots slot (g, Some v)) slot) g ≡ Some v
  value-used slots slot was g v at = rw (slice_get-set_same slots slot (g, Some v) (slice_get_within slots slot (was, None) at), eq-eqb g g refl) refl

  pub others-used : (slots : List (ℕ × Option T)) (slot was g : ℕ) (v : T) → slice_get slots slot ≡ Some (was, None) → (i n : ℕ) → n ≢ g → slot_value (slice_get (set slots slot (g, Some v)) i) n ≡ slot_value (slice_get slots i) n
  others-used [] slot was g v at i n apart = refl
  others-used (x ∷ xs) zero was g v at zero n apart =
      let old : ◌≡◌ {A = Option T} (slot_value (Some x) n) None = ap (λ (s : Option (ℕ × Option T)). slot_value s n) at ∙ cond_same (was == n) None in
      rw (ne_eqb g n (λ z. apart (sym z))) (sym old)
  others-used (x ∷ xs) zero was g v at (suc i) n apart = refl
  others-used (x ∷ xs) (suc slot) was g v at zero n apart = refl
  others-used (x ∷ xs) (suc slot) was g v at (suc i) n apart = others-used xs slot was g v at i n apart

  -- in a new one
  pub count-new : (slots : List (ℕ × Option T)) (g : ℕ) (v : T) → count_by is_taken (slots ++ (g, Some v) ∷ []) ≡ count_by is_taken slots + 1
  count-new slots g v = omega (arith, sum_by-append number_if slots ((g, Some v) ∷ []), sum_by-cons number_if (g, Some v) [])

  pub value-new : (slots : List (ℕ × Option T)) (g : ℕ) (v : T) (i : ℕ) → i ≡ length slots → slot_value (slice_get (slots ++ (g, Some v) ∷ []) i) g ≡ Some v
  value-new slots g v i last = rw (last, slice_get-append_seam slots (g, Some v), eq-eqb g g refl) refl

  pub others-new : (slots : List (ℕ × Option T)) (g : ℕ) (v : T) (i n : ℕ) → n ≢ g → slot_value (slice_get (slots ++ (g, Some v) ∷ []) i) n ≡ slot_value (slice_get slots i) n
  others-new [] g v zero n apart = rw (ne_eqb g n (λ z. apart (sym z))) refl
  others-new [] g v (suc i) n apart = refl
  others-new (x ∷ xs) g v zero n apart = refl
  others-new (x ∷ xs) g v (suc i) n apart = others-new xs g v i n apart

  -- then there is a place for it in the list
  pub free-place : (slots : List (ℕ × Option T)) (free : List ℕ) (slot g : ℕ) (v : T) → AreFree slots free → slice_get slots slot ≡ Some (g, Some v) → length free < length slots
  free-place slots free slot g v f at = omega (arith, (freed slots free slot g v f at).counted, length-append free (slot ∷ []), length-set slots slot (g, None))

-- the slot that was read
module _ {T : Type 0} (items : List (Slot T)) (i : ℕ) (s : Slot T) (read : s ≡ get_or items i s) (inside : i < length items) where
  pub slot_at : slice_get (map slot_pair items) i ≡ Some (slot_pair s)
  slot_at = slice_get-map slot_pair items i ∙ ap (option_map slot_pair) (slice_get-get_or items i s inside ∙ ap (λ (x : Slot T). Some x) (sym read))

  pub set_back : set items i s ≡ items
  set_back = subst (λ x. set items i x ≡ items) (sym read) (set-get_or items i s)

  -- a value that is there is that of the key
  pub value-there : (key : SlotKey) → key.slot ≡ i → s.generation ≡ key.generation → slot_value (slice_get (map slot_pair items) key.slot) key.generation ≡ s.value
  value-there key slot same = rw (slot, slot_at, eq-eqb s.generation key.generation same) refl

  pub value-other : (key : SlotKey) → key.slot ≡ i → s.generation ≢ key.generation → slot_value (slice_get (map slot_pair items) key.slot) key.generation ≡ None
  value-other key slot other = rw (slot, slot_at, ne_eqb s.generation key.generation other) refl

-- what a pool is after a call
module _ {T : Type 0} (p q : PoolState T) (same : p ≡ q) where
  pub inserted-used : (v : T) (slot : ℕ) (rest : List ℕ) → p.free ≡ slot ∷ rest → record p { slots = set p.slots slot (p.count, Some v); free = rest; count = p.count + 1 } ≡ inserted q v
  inserted-used v slot rest free = sym (ap (put_in p v) free) ∙ ap (λ x. inserted x v) same

  pub removed-none : (key : SlotKey) → value_of p key ≡ None → p ≡ removed q key
  removed-none key none = sym (ap (without p key) none) ∙ ap (λ x. removed x key) same

  pub replaced-none : (key : SlotKey) (v : T) → value_of p key ≡ None → p ≡ replaced q key v
  replaced-none key v none = sym (ap (written p key v) none) ∙ ap (λ x. replaced x key v) same

  pub replaced-some : (key : SlotKey) (v was : T) → value_of p key ≡ Some was → record p { slots = set p.slots key.slot (key.generation, Some v) } ≡ replaced q key v
  replaced-some key v was some = sym (ap (written p key v) some) ∙ ap (λ x. replaced x key v) same

  pub removed-some : (key : SlotKey) (v : T) → value_of p key ≡ Some v → record p { slots = set p.slots key.slot (key.generation, None); free = key.slot ∷ p.free } ≡ removed q key
  removed-some key v some = sym (ap (without p key) some) ∙ ap (λ x. removed x key) same
