-- What a pool is to its users.
use Rattle.std.specs.Prelude.{ℕ, ◌≡◌, ◌+◌, ◌-◌, ◌==◌, Bool, List, [], ◌∷◌, ◌++◌, length, set, Option, Some, None, is_some, slice_get, refl, if◌then◌else◌}
use Rattle.std.specs.List.{count_by}
use Rattle.std.specs.Coded.{Coded, code_by, coded×, coded_ℕ, coded_list, coded_option}
use Rattle.usb_device_ledger.specs.declared.pool.SlotKey.{SlotKey}

-- for each slot its generation and its value; the free slots, of which the first is used next; how many values were put in; and
-- how many more slots there is room for
pub record PoolState (T : Type 0) : Type 0 where
  pub slots : List (ℕ × Option T)
  pub free : List ℕ
  pub count : ℕ
  pub room : ℕ

abbrev pub pool_code : {T : Type 0} → Coded T → Coded (PoolState T)
pool_code {T} code =
    code_by
    (List (ℕ × Option T) × (List ℕ × (ℕ × ℕ)))
    (coded× (coded_list (coded× coded_ℕ (coded_option code))) (coded× (coded_list coded_ℕ) (coded× coded_ℕ coded_ℕ)))
    (λ p. (p.slots, (p.free, (p.count, p.room))))
    (λ p. record { slots = p.0; free = p.1.0; count = p.1.1.0; room = p.1.1.1 })
    (λ _. refl)

-- the slot that is used next
abbrev pub first_of : List ℕ → ℕ → ℕ
first_of [] n = n
first_of (slot ∷ free) n = slot

module _ {T : Type 0} where
  -- whether a slot has a value
  abbrev pub is_taken : ℕ × Option T → Bool
  is_taken s = is_some s.1

  -- how many values are there
  abbrev pub kept_count : PoolState T → ℕ
  kept_count p = count_by is_taken p.slots

  -- what a slot has for a generation
  abbrev pub slot_value : Option (ℕ × Option T) → ℕ → Option T
  slot_value None generation = None
  slot_value (Some s) generation = if s.0 == generation then s.1 else None

  -- the value of a key, if it is there: of another generation a slot has none
  abbrev pub value_of : PoolState T → SlotKey → Option T
  value_of p key = slot_value (slice_get p.slots key.slot) key.generation

  -- a value is put in: into the first free slot, and into a new one where none is free
  abbrev pub put_in : PoolState T → T → List ℕ → PoolState T
  put_in p v [] = record p { slots = p.slots ++ (p.count, Some v) ∷ []; count = p.count + 1; room = p.room - 1 }
  put_in p v (slot ∷ free) = record p { slots = set p.slots slot (p.count, Some v); free = free; count = p.count + 1 }

  abbrev pub inserted : PoolState T → T → PoolState T
  inserted p v = put_in p v p.free

  -- its key
  abbrev pub key_of : PoolState T → SlotKey
  key_of p = record { slot = first_of p.free (length p.slots); generation = p.count }

  -- another value is put in the place of that of a key, if it is there
  abbrev pub written : PoolState T → SlotKey → T → Option T → PoolState T
  written p key v None = p
  written p key v (Some was) = record p { slots = set p.slots key.slot (key.generation, Some v) }

  abbrev pub replaced : PoolState T → SlotKey → T → PoolState T
  replaced p key v = written p key v (value_of p key)

  -- the value of a key is taken out, and its slot is free
  abbrev pub without : PoolState T → SlotKey → Option T → PoolState T
  without p key None = p
  without p key (Some v) = record p { slots = set p.slots key.slot (key.generation, None); free = key.slot ∷ p.free }

  abbrev pub removed : PoolState T → SlotKey → PoolState T
  removed p key = without p key (value_of p key)

  -- a free slot has no value and is listed once, and each slot without a value is listed
  pub record AreFree (slots : List (ℕ × Option T)) (free : List ℕ) : Type 0 where
    pub vacant : (j i : ℕ) → slice_get free j ≡ Some i → (g : ℕ) × (slice_get slots i ≡ Some (g, None))
    pub once : (j k i : ℕ) → slice_get free j ≡ Some i → slice_get free k ≡ Some i → j ≡ k
    pub counted : length free + count_by is_taken slots ≡ length slots
