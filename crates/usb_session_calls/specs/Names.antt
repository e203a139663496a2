-- What is open under each name of a kind: the name of number n has the element n of a list, `None` where nothing is open.
use Rattle.std.specs.Prelude.{ℕ, zero, suc, List, [], ◌∷◌, Bool, true, false, Option, Some, None, slice_get}
use Rattle.std.specs.Option.{option_map}

-- one `Option` of two
abbrev pub flat : {X : Type 0} → Option (Option X) → Option X
flat None = None
flat (Some o) = o

-- what is open under a name
unfoldable pub named : {X : Type 0} → List (Option X) → ℕ → Option X
named names n = flat (slice_get names n)

-- whether a list has this element, and nothing is open there
abbrev pub is_free_place : {X : Type 0} → Option (Option X) → Bool
is_free_place None = false
is_free_place (Some None) = true
is_free_place (Some (Some x)) = false

-- whether a name may be opened
unfoldable pub is_free : {X : Type 0} → List (Option X) → ℕ → Bool
is_free names n = is_free_place (slice_get names n)

-- a change of the element with this index, if there is one
abbrev pub change_at : {X : Type 0} → (X → X) → List X → ℕ → List X
change_at f [] n = []
change_at f (x ∷ xs) zero = f x ∷ xs
change_at f (x ∷ xs) (suc n) = x ∷ change_at f xs n

-- a change of what is open under a name
unfoldable pub change_named : {X : Type 0} → (X → X) → List (Option X) → ℕ → List (Option X)
change_named f names n = change_at (option_map f) names n

-- nothing, whatever was there
abbrev pub nothing : {X : Type 0} → Option X → Option X
nothing o = None

-- nothing is open under a name any more
unfoldable pub freed : {X : Type 0} → List (Option X) → ℕ → List (Option X)
freed names n = change_at nothing names n

-- x, whatever was there
abbrev pub something : {X : Type 0} → X → Option X → Option X
something x o = Some x

-- something is open under a name
unfoldable pub set_name : {X : Type 0} → List (Option X) → ℕ → X → List (Option X)
set_name names n x = change_at (something x) names n
