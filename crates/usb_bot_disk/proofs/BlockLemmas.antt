-- The length of a disk behind a write, and its bytes up to the end of the write.
use Rattle.std.proofs.Common.{◌≡◌, ℕ, ◌+◌, ◌≤◌, List, ◌++◌, length, take, drop, sym, ap, ◌∙◌, arith}
use Rattle.std.proofs.Math.Seq.{take-append_seam}
use Rattle.std.proofs.lemmas.List.{length-append, length-take, length-drop}
use Rattle.usb_bot_disk.specs.Blocks.{overwritten}

-- the bytes before the end of a write
front-length : (disk xs : List ℕ) (at : ℕ) → at ≤ length disk → length (take at disk ++ xs) ≡ at + length xs
front-length disk xs at within = omega (arith, length-append (take at disk) xs, length-take at disk)

-- a disk has as many bytes as before
pub written-length : (disk xs : List ℕ) (at : ℕ) → at + length xs ≤ length disk → length (overwritten disk at xs) ≡ length disk
written-length disk xs at within =
    omega (arith, length-append (take at disk ++ xs) (drop (at + length xs) disk), front-length disk xs at (omega (arith, within)), length-drop (at + length xs) disk)

pub front_more : (disk xs : List ℕ) (at : ℕ) → at ≤ length disk → take (at + length xs) (overwritten disk at xs) ≡ take at disk ++ xs
front_more disk xs at within =
    ap (λ n. take n (overwritten disk at xs)) (sym (front-length disk xs at within)) ∙ take-append_seam (take at disk ++ xs) (drop (at + length xs) disk)
