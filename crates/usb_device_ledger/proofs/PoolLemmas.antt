-- The values of a pool after its calls.
use Rattle.std.proofs.Common.{◌≡◌, ◌≢◌, ℕ, ◌+◌, zero, suc, false, List, [], ◌∷◌, set, Option, Some, None, slice_get, inl, inr, refl, sym, ap, ◌∙◌, arith}
use Rattle.std.specs.Prelude.{◌==◌, if◌then◌else◌}
use Rattle.std.proofs.lemmas.Option.{none-some, slice_get_within}
use Rattle.std.proofs.lemmas.Bool.{cases_eq, eq-eqb, ne_eqb}
use Rattle.usb_kernel.proofs.Places.{slice_get-set_same}
use Rattle.usb_device_ledger.specs.declared.pool.SlotKey.{SlotKey}
use Rattle.usb_device_ledger.specs.Pools.{PoolState, kept_count, slot_value, value_of, put_in, inserted, written, replaced, without, removed}
use Rattle.usb_device_ledger.proofs.FreeLemmas.{count-written}

module _ {T : Type 0} where
  -- the slot of a value
  found-in : (s : Option (ℕ × Option T)) (n : ℕ) (v : T) → slot_value s n ≡ Some v → s ≡ Some (n, Some v)
  found-in None n v at = absurd (none-some v at)
  found-in (Some (g, o)) n v at =
      elim (cases_eq g n) [
        | inl same ↦
            let here : (if g == n then o else None) ≡ o = rw (eq-eqb g n same) refl in
            let value : o ≡ Some v = sym here ∙ at in
            rw (value, same) refl
        | inr apart ↦
            let here : ◌≡◌ {A = Option T} (if g == n then o else None) None = rw (ne_eqb g n apart) refl in
            absurd (none-some v (sym here ∙ at))
      ]

  pub slot-there : (p : PoolState T) (key : SlotKey) (v : T) → value_of p key ≡ Some v → slice_get p.slots key.slot ≡ Some (key.generation, Some v)
  slot-there p key v at = found-in (slice_get p.slots key.slot) key.generation v at

  -- a write changes no value of another generation
  others-written : (slots : List (ℕ × Option T)) (slot n : ℕ) (v : T) (o : Option T) → slice_get slots slot ≡ Some (n, Some v) → (i m : ℕ) → m ≢ n → slot_value (slice_get (set slots slot (n, o)) i) m ≡ slot_value (slice_get slots i) m
  others-written [] slot n v o at i m apart = refl
  others-written (x ∷ xs) zero n v o at zero m apart =
      let other : (n == m) ≡ false = ne_eqb n m (λ z. apart (sym z)) in
      let old : ◌≡◌ {A = Option T} (slot_value (Some x) m) None = ap (λ (s : Option (ℕ × Option T)). slot_value s m) at ∙ rw other refl in
      rw other (sym old)
  others-written (x ∷ xs) zero n v o at (suc i) m apart = refl
  others-written (x ∷ xs) (suc slot) n v o at zero m apart = refl
  others-written (x ∷ xs) (suc slot) n v o at (suc i) m apart = others-written xs slot n v o at i m apart

  -- the value of a key is taken out
  pub removed-is : (p : PoolState T) (key : SlotKey) (v : T) → value_of p key ≡ Some v → removed p key ≡ record p { slots = set p.slots key.slot (key.generation, None); free = key.slot ∷ p.free }
  removed-is p key v at = ap (without p key) at

  pub removed-others : (p : PoolState T) (key : SlotKey) (v : T) → value_of p key ≡ Some v → (other : SlotKey) → other.generation ≢ key.generation → value_of (removed p key) other ≡ value_of p other
  removed-others p key v at other apart = ap (λ q. value_of q other) (removed-is p key v at) ∙ others-written p.slots key.slot key.generation v None (slot-there p key v at) other.slot other.generation apart

  pub removed-kept : (p : PoolState T) (key : SlotKey) (v : T) → value_of p key ≡ Some v → kept_count (removed p key) + 1 ≡ kept_count p
  removed-kept p key v at = omega (arith, ap kept_count (removed-is p key v at), count-written p.slots key.slot (key.generation, Some v) (key.generation, None) (slot-there p key v at))

  -- it is replaced
  pub replaced-is : (p : PoolState T) (key : SlotKey) (v was : T) → value_of p key ≡ Some was → replaced p key v ≡ record p { slots = set p.slots key.slot (key.generation, Some v) }
  replaced-is p key v was at = ap (written p key v) at

  pub replaced-others : (p : PoolState T) (key : SlotKey) (v was : T) → value_of p key ≡ Some was → (other : SlotKey) → other.generation ≢ key.generation → value_of (replaced p key v) other ≡ value_of p other
  replaced-others p key v was at other apart = ap (λ q. value_of q other) (replaced-is p key v was at) ∙ others-written p.slots key.slot key.generation was (Some v) (slot-there p key was at) other.slot other.generation apart

  pub replaced-value : (p : PoolState T) (key : SlotKey) (v was : T) → value_of p key ≡ Some was → value_of (replaced p key v) key ≡ Some v
  replaced-value p key v was at =
      let there = slot-there p key was at in
      let slot : slice_get (set p.slots key.slot (key.generation, Some v)) key.slot ≡ Some (key.generation, Some v) = slice_get-set_same p.slots key.slot (key.generation, Some v) (slice_get_within p.slots key.slot (key.generation, Some was) there) in
      ap (λ q. value_of q key) (replaced-is p key v was at) ∙ ap (λ (s : Option (ℕ × Option T)). slot_value s key.generation) slot ∙ rw (eq-eqb key.generation key.generation refl) refl

  pub replaced-kept : (p : PoolState T) (key : SlotKey) (v was : T) → value_of p key ≡ Some was → kept_count (replaced p key v) ≡ kept_count p
  replaced-kept p key v was at = omega (arith, ap kept_count (replaced-is p key v was at), count-written p.slots key.slot (key.generation, Some was) (key.generation, Some v) (slot-there p key was at))

  -- one more was put in
  pub inserted-count : (p : PoolState T) (v : T) → (inserted p v).count ≡ p.count + 1
  inserted-count p v = by p.free
    where
      by : (free : List ℕ) → (put_in p v free).count ≡ p.count + 1
      by [] = refl
      by (slot ∷ free) = refl
