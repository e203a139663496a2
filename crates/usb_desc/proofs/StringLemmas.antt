-- Lemmas on the words of string descriptors.
use Rattle.std.proofs.Common.{◌≡◌, ℕ, suc, ◌+◌, ◌-◌, ◌*◌, ◌<◌, ◌≤◌, List, [], ◌∷◌, length, take, drop, drop-cons, get_or, refl, sym, ap, arith, Vec, Global, vec_len, Fits, w64}
use Rattle.std.proofs.lemmas.List.{take_all}
use Rattle.usb_desc.specs.Bytes.{word_at}
use Rattle.usb_desc.specs.Strings.{words}

-- fewer than two bytes hold no word
pub words_few : (bytes : List ℕ) → length bytes < 2 → words bytes ≡ []
words_few [] few = refl
words_few (byte ∷ []) few = refl
words_few (low ∷ high ∷ bytes) few = absurd (omega arith)

-- the first word, and those behind it
pub words_two : (bytes : List ℕ) (w : ℕ) → 2 ≤ length bytes → w ≡ get_or bytes 0 0 + get_or bytes 1 0 * 256 → words bytes ≡ w ∷ words (take (length bytes - 2) (drop 2 bytes))
words_two [] w two is = absurd (omega arith)
words_two (byte ∷ []) w two is = absurd (omega arith)
words_two (low ∷ high ∷ bytes) w two is =
    let others : take (length (low ∷ high ∷ bytes) - 2) bytes ≡ bytes = take_all _ bytes (omega arith) in
    let this : low + 256 * high ≡ w = omega (arith, is) in
    rw (others, this) refl

-- the same at a place
pub words_at : (bytes : List ℕ) (at w : ℕ) → at + 1 < length bytes → w ≡ word_at bytes at → words (drop at bytes) ≡ w ∷ words (drop (at + 2) bytes)
words_at bytes at w inside is =
    let one : suc at ≡ at + 1 = omega arith in
    let two : suc (at + 1) ≡ at + 2 = omega arith in
    let low : at < length bytes = omega arith in
    let first : drop at bytes ≡ get_or bytes at 0 ∷ drop (at + 1) bytes = rw one at (drop-cons bytes at 0 low) in
    let second : drop (at + 1) bytes ≡ get_or bytes (at + 1) 0 ∷ drop (at + 2) bytes = rw two at (drop-cons bytes (at + 1) 0 inside) in
    rw (first, second) (ap (λ n. n ∷ words (drop (at + 2) bytes)) (sym is))

-- at least two bytes are left at a place
pub two_left : (bytes : Vec ℕ Global) (at len left : ℕ) → len ≡ vec_len bytes → left ≡ len - at → 2 ≤ left → at + 1 < length bytes.items
two_left bytes at len left is rest two = omega (arith, bytes.ok.0)

pub place_fits : (bytes : Vec ℕ Global) (at : ℕ) → at + 1 < length bytes.items → Fits w64 (at + 2)
place_fits bytes at inside = omega (arith, bytes.ok.0, bytes.ok.1, bytes.small)
