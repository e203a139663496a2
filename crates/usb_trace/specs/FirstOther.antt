-- The first place at which two lists differ.
use Rattle.std.specs.Prelude.{ℕ, ◌≡◌, ◌≢◌, ◌≤◌, List, length, take, slice_get}

-- up to this place both are the same, and there they are not, or one of them ends
pub record IsFirstOther {X : Type 0} (xs ys : List X) (place : ℕ) : Type 0 where
  pub within : place ≤ length xs
  pub inside : place ≤ length ys
  pub same : take place xs ≡ take place ys
  pub apart : slice_get xs place ≢ slice_get ys place
