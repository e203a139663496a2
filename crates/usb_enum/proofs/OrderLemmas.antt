-- A list in order of numbers, as the lists for each number, one after the other.
use Rattle.std.proofs.Common.{◌≡◌, ℕ, ◌+◌, ◌≤◌, ◌<◌, Bool, true, false, zero, suc, List, [], ◌∷◌, ◌++◌, length, get_or, filter, refl, sym, ap, ◌∙◌, cond, arith}
use Rattle.std.specs.Prelude.{◌==◌}
use Rattle.std.specs.List.{flat_map, range_with_len, All}
use Rattle.std.specs.Ordering.{is_lt, nat_cmp}
use Rattle.std.specs.List.Sorted.{IsNonDecreasingBy, IsStableByKey, ties}
use Rattle.std.proofs.lemmas.List.Elements.{All-head, All-tail}
use Rattle.std.proofs.lemmas.Bool.Decides.{nat_tests}

module _ {X : Type 0} (key : X → ℕ) where
  abbrev pub of_key : List X → ℕ → List X
  of_key xs n = filter (λ x. key x == n) xs

  -- each number is at least the one before it
  abbrev pub Rising : ℕ → List X → Type 0
  Rising low [] = Unit {0}
  Rising low (x ∷ xs) = (low ≤ key x) × Rising (key x) xs

  pub rising_from : (low : ℕ) (xs : List X) → IsNonDecreasingBy key xs → ((d : X) → 0 < length xs → low ≤ key (get_or xs 0 d)) → Rising low xs
  rising_from low [] up first = tt
  rising_from low (x ∷ xs) up first =
      (first x (omega arith), rising_from (key x) xs (λ i j d le lt. up (suc i) (suc j) d (omega arith) (omega arith)) (λ d some. up 0 1 d (omega arith) (omega arith)))

  other_number : (m n : ℕ) → m < n → (m == n) ≡ false
  other_number m n h = grind (arith, nat_tests)

  other_number' : (m n : ℕ) → n < m → (m == n) ≡ false
  other_number' m n h = grind (arith, nat_tests)

  -- an element of another number
  of_key_other : (x : X) (xs : List X) (n : ℕ) → (key x == n) ≡ false → of_key (x ∷ xs) n ≡ of_key xs n
  of_key_other x xs n other = ap (λ b. cond b (x ∷ of_key xs n) (of_key xs n)) other

  of_key_same : (x : X) (xs : List X) (n : ℕ) → (key x == n) ≡ true → of_key (x ∷ xs) n ≡ x ∷ of_key xs n
  of_key_same x xs n same = ap (λ b. cond b (x ∷ of_key xs n) (of_key xs n)) same

  none_below : (xs : List X) (low n : ℕ) → Rising low xs → n < low → of_key xs n ≡ []
  none_below [] low n up below = refl
  none_below (x ∷ xs) low n up below =
      let above : n < key x = omega (arith, up.0) in
      of_key_other x xs n (other_number' (key x) n above) ∙ none_below xs (key x) n up.1 above

  -- numbers past that of x
  past_first : (x : X) (xs : List X) (n len : ℕ) → key x < n → flat_map (of_key (x ∷ xs)) (range_with_len n len) ≡ flat_map (of_key xs) (range_with_len n len)
  past_first x xs n zero past = refl
  past_first x xs n (suc len) past =
      ap (λ part. part ++ flat_map (of_key (x ∷ xs)) (range_with_len (n + 1) len)) (of_key_other x xs n (other_number (key x) n past))
      ∙ ap (λ rest. of_key xs n ++ rest) (past_first x xs (n + 1) len (omega arith))

  -- the least element comes first
  least_first : (x : X) (xs : List X) (n len : ℕ) → n ≤ key x → key x < n + len → Rising (key x) xs → flat_map (of_key (x ∷ xs)) (range_with_len n len) ≡ x ∷ flat_map (of_key xs) (range_with_len n len)
  least_first x xs n zero low high up = absurd (omega arith)
  least_first x xs n (suc len) low high up = by (key x == n) refl (λ more. least_first x xs (n + 1) len more (omega arith) up)
    where
      by : (b : Bool) → (key x == n) ≡ b → (n + 1 ≤ key x → flat_map (of_key (x ∷ xs)) (range_with_len (n + 1) len) ≡ x ∷ flat_map (of_key xs) (range_with_len (n + 1) len)) → flat_map (of_key (x ∷ xs)) (range_with_len n (suc len)) ≡ x ∷ flat_map (of_key xs) (range_with_len n (suc len))
      by true e later =
          let same : key x ≡ n = grind (arith, nat_tests) in
          ap (λ part. part ++ flat_map (of_key (x ∷ xs)) (range_with_len (n + 1) len)) (of_key_same x xs n e)
          ∙ ap (λ rest. x ∷ (of_key xs n ++ rest)) (past_first x xs (n + 1) len (omega arith))
      by false e later =
          let above : n < key x = grind (arith, nat_tests) in
          ap (λ part. part ++ flat_map (of_key (x ∷ xs)) (range_with_len (n + 1) len)) (of_key_other x xs n e ∙ none_below xs (key x) n up above)
          ∙ later (omega arith)
          ∙ sym (ap (λ part. x ∷ (part ++ flat_map (of_key xs) (range_with_len (n + 1) len))) (none_below xs (key x) n up above))

  parts_of_none : (n len : ℕ) → flat_map (of_key []) (range_with_len n len) ≡ []
  parts_of_none n zero = refl
  parts_of_none n (suc len) = parts_of_none (n + 1) len

  -- a list in order is its parts
  pub by_parts : (xs : List X) (low top : ℕ) → Rising low xs → All (λ x. key x < top) xs → flat_map (of_key xs) (range_with_len 0 top) ≡ xs
  by_parts [] low top up under = parts_of_none 0 top
  by_parts (x ∷ xs) low top up under =
      let first : key x < top = All-head (λ x. key x < top) x xs under in
      least_first x xs 0 top (omega arith) (omega arith) up.1 ∙ ap (λ rest. x ∷ rest) (by_parts xs (key x) top up.1 (All-tail (λ x. key x < top) x xs under))

  tie : (m n : ℕ) → ties (λ a b. is_lt (nat_cmp a b)) m n ≡ (n == m)
  tie m n = grind (arith, nat_tests)

  -- a stable sort leaves the part of each number as it was
  pub same_part : (make : ℕ → X) → ((n : ℕ) → key (make n) ≡ n) → (xs ys : List X) → IsStableByKey key nat_cmp xs ys → (n : ℕ) → of_key ys n ≡ of_key xs n
  same_part make made xs ys stable n =
      let h : (y : X) → ties (λ a b. is_lt (nat_cmp (key a) (key b))) (make n) y ≡ (key y == n) = λ y. tie (key (make n)) (key y) ∙ ap (λ m. key y == m) (made n) in
      sym (λ i. filter (λ y. h y i) ys) ∙ stable (make n) ∙ (λ i. filter (λ y. h y i) xs)

  pub sorted_parts : (make : ℕ → X) → ((n : ℕ) → key (make n) ≡ n) → (xs ys : List X) (top : ℕ) → IsStableByKey key nat_cmp xs ys → IsNonDecreasingBy key ys → All (λ x. key x < top) ys → ys ≡ flat_map (of_key xs) (range_with_len 0 top)
  sorted_parts make made xs ys top stable up under =
      let same = same_part make made xs ys stable in
      sym (by_parts ys 0 top (rising_from 0 ys up (λ d some. omega arith)) under) ∙ (λ i. flat_map (λ n. same n i) (range_with_len 0 top))
