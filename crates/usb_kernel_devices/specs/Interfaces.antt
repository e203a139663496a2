-- Sets of interface numbers. A set is the list of its numbers, ascending.
use Rattle.std.specs.Prelude.{ℕ, Bool, true, false, List, [], ◌∷◌, filter, not, ◌==◌, nat_lt, if◌then◌else◌}
use Rattle.std.specs.List.{list_any, fold}

-- whether a number is in a set
abbrev pub contains : List ℕ → ℕ → Bool
contains numbers i = list_any (λ n. n == i) numbers

-- whether a set has no number
abbrev pub is_empty : List ℕ → Bool
is_empty [] = true
is_empty (n ∷ ns) = false

-- a set with one more number
abbrev pub insert : List ℕ → ℕ → List ℕ
insert [] i = i ∷ []
insert (n ∷ ns) i = if nat_lt i n then i ∷ n ∷ ns else if n == i then n ∷ ns else n ∷ insert ns i

-- a set without a number
abbrev pub remove : List ℕ → ℕ → List ℕ
remove numbers i = filter (λ n. not (n == i)) numbers

-- the set of these numbers, in whatever order they stand
abbrev pub set_of : List ℕ → List ℕ
set_of numbers = fold insert [] numbers
