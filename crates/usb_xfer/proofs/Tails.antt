-- A write to the bytes of a buffer from an index on.
use Rattle.std.proofs.Common.{◌≡◌, ◌+◌, ◌≤◌, ℕ, List, ◌++◌, length, take, drop, refl, ap, ◌∙◌, arith, length-append, length-take, length-drop, append_assoc}
use Rattle.std.proofs.lemmas.List.{take-append-le}
use Rattle.std.proofs.Math.Seq.{take-append-add}
use Rattle.usb_xfer.specs.BufferState.{BufferState}
use Rattle.usb_xfer.specs.BufferLends.{written_over, with_tail}

-- what is written over a list is as long as the list, whatever follows
take-over : (ws old rest : List ℕ) → take (length old) (ws ++ drop (length ws) old ++ rest) ≡ written_over ws old
take-over ws old rest =
    take-append-le (length old) (ws ++ drop (length ws) old) rest (omega (arith, length-append ws (drop (length ws) old), length-drop (length ws) old))

-- the front of a list, and what was written over the rest of it: it may be too long
abbrev pub with_written : List ℕ → ℕ → List ℕ → List ℕ
with_written xs start ws = take start xs ++ (ws ++ drop (length ws) (drop start xs))

-- cut to its length, it is the front and the rest written over
take-written : (xs ws rest : List ℕ) (start n : ℕ) → n ≡ length xs → start ≤ length xs → take n (with_written xs start ws ++ rest) ≡ take start xs ++ written_over ws (drop start xs)
take-written xs ws rest start n whole within =
    let front = take start xs in
    let old = drop start xs in
    let lengths : n ≡ length front + length old = omega (arith, length-take start xs, length-drop start xs) in
    rw (lengths, append_assoc front (ws ++ drop (length ws) old) rest, take-append-add front (ws ++ drop (length ws) old ++ rest) (length old), take-over ws old rest) refl

-- the same of a buffer whose bytes these are
pub tail-written : (b : BufferState) (xs ws : List ℕ) (start n asked fits : ℕ) → ◌≡◌ {A = BufferState} (record { bytes = xs; requested = asked; room = fits }) b → n ≡ length xs → start ≤ length xs → ◌≡◌ {A = BufferState} (record { bytes = take n (with_written xs start ws ++ drop (length (with_written xs start ws)) xs); requested = asked; room = fits }) (with_tail b start ws)
tail-written b xs ws start n asked fits view whole within =
    ap (λ (ys : List ℕ). record { bytes = ys; requested = asked; room = fits }) (take-written xs ws (drop (length (with_written xs start ws)) xs) start n whole within) ∙ ap (λ s. with_tail s start ws) view
