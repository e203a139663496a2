-- A sum of bytes.
use Rattle.std.proofs.Common.{ℕ, Fits, w8, ◌≤◌, ◌*◌, suc, get_or, List, [], ◌∷◌, length, ap, arith}
use Rattle.std.specs.List.{sum, sum_by}
use Rattle.std.proofs.lemmas.List.{map-id}
use Rattle.std.proofs.lemmas.List.Sums.{sum-map, sum_by-cons}

by-number : (xs : List ℕ) → ((i : ℕ) → Fits w8 (get_or xs i 0)) → sum_by (λ b. b) xs ≤ 255 * length xs
by-number [] small = omega arith
by-number (x ∷ xs) small =
    let first = small 0 in
    omega (arith, first, sum_by-cons (λ b. b) x xs, by-number xs (λ i. small (suc i)))

pub byte-sum : (xs : List ℕ) → ((i : ℕ) → Fits w8 (get_or xs i 0)) → sum xs ≤ 255 * length xs
byte-sum xs small =
    omega (arith, ap sum (map-id xs), sum-map (λ b. b) xs, by-number xs small)
