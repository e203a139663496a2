-- How long generated texts are: sizes of messages add up to 19900 in any 200 messages.
use Rattle.std.proofs.Common.{◌≡◌, ℕ, ◌+◌, ◌*◌, ◌%◌, ◌≤◌, inl, inr, zero, suc, List, [], ◌∷◌, ◌++◌, length, take, drop, codes, refl, ap, ◌∙◌, arith, length-append, length-drop, lit≤}
use Rattle.std.proofs.lemmas.Bool.{cases_lt}
use Rattle.std.proofs.lemmas.Bool.Decides.{nat_tests}
use Rattle.std.proofs.lemmas.List.{length-take}
use Rattle.std.proofs.lemmas.List.FromFn.{length-map-range_with_len}
use Rattle.hex.specs.Hex.{encode_lower, lower_digits}
use Rattle.hex.proofs.HexLemmas.{length-encode_with}
use Rattle.usb_script.specs.Generated.{line, times, opening, size_of, message, write_of, packet_count, read_count, round_trip, round_trips, generated}

-- ---- sizes of messages

-- how many bytes the first n messages have
abbrev sizes : ℕ → ℕ
sizes zero = 0
sizes (suc n) = sizes n + size_of n

-- 200 messages more
block : (n m : ℕ) → m ≡ n + 200 → sizes m ≡ sizes n + 19900
block zero m is = ap sizes is
block (suc n) zero is = absurd (omega arith)
block (suc n) (suc m) is =
    let before : sizes m ≡ sizes n + 19900 = block n m (omega arith) in
    let same : size_of m ≡ size_of n = omega arith in
    omega arith

blocks : (q m : ℕ) → m ≡ 200 * q → sizes m ≡ 19900 * q
blocks zero m is = ap sizes is
blocks (suc q) m is =
    let before : sizes (200 * q) ≡ 19900 * q = blocks q (200 * q) refl in
    let more : sizes m ≡ sizes (200 * q) + 19900 = block (200 * q) m (omega arith) in
    omega arith

grows : (n m : ℕ) → n ≤ m → sizes n ≤ sizes m
grows n zero few = let none : n ≡ 0 = omega arith in rw none (omega arith)
grows n (suc m) few =
    elim (cases_lt n (suc m)) [
      | inl below ↦ let before : sizes n ≤ sizes m = grows n m (omega arith) in omega arith
      | inr above ↦ let all : n ≡ suc m = omega arith in rw all (omega arith)
    ]

-- ---- lengths of lines

length-line : (words : List ℕ) → length (line words) ≡ length words + 1
length-line words = length-append words (10 ∷ [])

length-times : (n : ℕ) (lines : List ℕ) → length (times n lines) ≡ n * length lines
length-times zero lines = omega arith
length-times (suc n) lines =
    let before : length (times n lines) ≡ n * length lines = length-times n lines in
    length-append (times n lines) lines ∙ omega arith

length-write_of : (bytes : List ℕ) → length (write_of bytes) ≤ 10 + 2 * length bytes
unfolding write_of
length-write_of [] = omega arith
length-write_of (b ∷ bytes) =
    let digits : length (encode_lower (b ∷ bytes)) ≡ 2 * length (b ∷ bytes) = length-encode_with lower_digits (b ∷ bytes) in
    let whole = length-line (codes "write w0 " ++ encode_lower (b ∷ bytes)) in
    omega arith

read_count_bound : (size : ℕ) → read_count size ≤ 3
read_count_bound size = grind (arith, nat_tests)

length-round_trip : (bytes : List ℕ) → length (round_trip bytes) ≤ 102 + 3 * length bytes
unfolding round_trip
length-round_trip bytes =
    let first = length-write_of (take 128 bytes) in
    let more = length-write_of (drop 128 bytes) in
    let echoes = length-times (packet_count (length bytes)) (line (codes "! echo k0 02 81")) in
    let reads = length-times (read_count (length bytes)) (line (codes "sread r0 200")) in
    let few = read_count_bound (length bytes) in
    simp length-append (omega (arith, length-take 128 bytes, length-drop 128 bytes))

pub length-message : (j : ℕ) → length (message j) ≡ size_of j
unfolding message
length-message j = length-map-range_with_len (λ i. (j + i) % 256) 0 (size_of j)

length-round_trips : (n : ℕ) → length (round_trips n) ≤ 102 * n + 3 * sizes n
unfolding round_trips
length-round_trips zero = omega arith
length-round_trips (suc n) =
    let before : length (round_trips n) ≤ 102 * n + 3 * sizes n = length-round_trips n in
    let this = length-round_trip (message n) in
    let size = length-message n in
    let whole = length-append (round_trips n) (round_trip (message n)) in
    omega arith

length-opening : length opening ≤ 400
unfolding opening
length-opening = lit≤ tt

-- 2000 messages fit
pub length-generated : (n : ℕ) → n ≤ 2000 → length (generated n) ≤ 1048576
unfolding generated
length-generated n few =
    let all : sizes 2000 ≡ 199000 = blocks 10 2000 refl in
    let most : sizes n ≤ sizes 2000 = grows n 2000 few in
    let front = length-opening in
    let messages = length-round_trips n in
    let whole = length-append opening (round_trips n) in
    omega arith
