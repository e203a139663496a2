-- The blocks of a disk: blocks of 512 bytes, one behind the other.
use Rattle.std.specs.Prelude.{ℕ, ◌+◌, ◌*◌, ◌++◌, List, length, take, drop}

-- the bytes of a disk with other bytes written from a place on
abbrev pub overwritten : List ℕ → ℕ → List ℕ → List ℕ
overwritten disk at bytes = take at disk ++ bytes ++ drop (at + length bytes) disk

-- the blocks from one on
abbrev pub blocks_at : List ℕ → ℕ → ℕ → List ℕ
blocks_at disk block count = take (512 * count) (drop (512 * block) disk)
