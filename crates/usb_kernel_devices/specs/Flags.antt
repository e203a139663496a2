-- A set of numbers as flags.
use Rattle.std.specs.Prelude.{ℕ, ◌+◌, Bool, List, [], ◌∷◌, if◌then◌else◌}

-- the numbers whose flags are set, where the first flag is that of n
unfoldable pub numbers_from : ℕ → List Bool → List ℕ
numbers_from n [] = []
numbers_from n (flag ∷ flags) = if flag then n ∷ numbers_from (n + 1) flags else numbers_from (n + 1) flags
