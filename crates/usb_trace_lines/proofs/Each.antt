-- What holds of each of several.
use Rattle.std.proofs.Common.{◌≡◌, ℕ, ◌+◌, ◌-◌, ◌<◌, ◌≤◌, List, length, get_or, take, reverse, arith}
use Rattle.std.specs.List.{All}
use Rattle.std.proofs.lemmas.List.{length-reverse, reverse-reverse, get_or-reverse, take_all}
use Rattle.std.proofs.lemmas.List.Elements.{All-more}

-- it holds of each in the other order
pub all-reverse : {X : Type 0} (P : X → Type 0) (xs : List X) → All P xs → All P (reverse xs)
all-reverse P xs all k d within =
    let count = length-reverse xs in
    rw (get_or-reverse xs k d (omega arith)) (all (length xs - 1 - k) d (omega arith))

pub all-forward : {X : Type 0} (P : X → Type 0) (xs : List X) → All P (reverse xs) → All P xs
all-forward P xs all =
    let twice = all-reverse P (reverse xs) all in
    rw (reverse-reverse xs) at twice

-- it holds of each of the first ones with one more
pub first-more : {X : Type 0} (P : X → Type 0) (xs : List X) (i : ℕ) (x : X) → i < length xs → x ≡ get_or xs i x → All P (take i xs) → P x → All P (take (i + 1) xs)
first-more P xs i x within is before here = All-more P xs i x within before (rw (← is) here)

-- the first ones are all
pub first-all : {X : Type 0} (P : X → Type 0) (xs : List X) (i : ℕ) → length xs ≤ i → All P (take i xs) → All P xs
first-all P xs i whole before = rw (take_all i xs whole) at before
