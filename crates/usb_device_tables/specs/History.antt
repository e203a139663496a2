-- What a registry is to its users: for each serial number the value, or nothing once it is gone.
use Rattle.std.specs.Prelude.{ℕ, zero, suc, List, [], ◌∷◌, ◌++◌, Option, is_some, slice_get, option_and_then, refl}
use Rattle.std.specs.List.{count_by}
use Rattle.std.specs.Coded.{Coded, code_by, coded×, coded_ℕ, coded_list, coded_option}

-- the value or nothing for each serial number, and how many values fit with no allocation
pub record RegistryState (T : Type 0) : Type 0 where
  pub values : List (Option T)
  pub capacity : ℕ

-- a registry is stored as the pair of its fields
abbrev pub registry_code : {T : Type 0} → Coded T → Coded (RegistryState T)
registry_code {T} code =
    code_by
    (List (Option T) × ℕ)
    (coded× (coded_list (coded_option code)) coded_ℕ)
    (λ r. (r.values, r.capacity))
    (λ p. record { values = p.0; capacity = p.1 })
    (λ _. refl)

-- the value with a serial number, if it is there
abbrev pub value_at : {T : Type 0} → List (Option T) → ℕ → Option T
value_at values serial = option_and_then (λ v. v) (slice_get values serial)

-- how many values are there
abbrev pub live_count : {T : Type 0} → List (Option T) → ℕ
live_count values = count_by is_some values

module _ {T : Type 0} where
  -- the values of the serial numbers below the next
  abbrev pub values_below : (ℕ → Option T) → ℕ → List (Option T)
  values_below at zero = []
  values_below at (suc n) = values_below at n ++ at n ∷ []
