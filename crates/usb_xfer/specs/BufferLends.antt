-- What a buffer ends as, where a `&mut` to its bytes is returned.
use Rattle.std.specs.Prelude.{ℕ, List, ◌++◌, length, take, drop, replicate}
use Rattle.std.specs.Borrow.{Lends, MutBor, Fml, Array, u8}
use Rattle.usb_xfer.specs.BufferState.{BufferState}
use Rattle.usb_xfer.specs.contracts.buffer.Buffer.{the_row}

-- these bytes written over others, whose number stays
abbrev pub written_over : List ℕ → List ℕ → List ℕ
written_over ws old = take (length old) (ws ++ drop (length ws) old)

-- the bytes from an index on were lent, and these were written over them
abbrev pub with_tail : BufferState → ℕ → List ℕ → BufferState
with_tail b start ws = record b { bytes = take start b.bytes ++ written_over ws (drop start b.bytes) }

-- all bytes were lent, and these were written over them
abbrev pub with_bytes : BufferState → List ℕ → BufferState
with_bytes b ws = record b { bytes = written_over ws b.bytes }

-- new bytes were appended and lent, and these were written over them
abbrev pub with_more : BufferState → List ℕ → List ℕ → BufferState
with_more b more ws = record b { bytes = b.bytes ++ written_over ws more }

abbrev pub LendsBytes : MutBor BufferState → MutBor (List ℕ) → Fml
LendsBytes b r = Lends the_row (Array u8 0) b r (with_bytes b.now)

abbrev pub LendsTail : MutBor BufferState → ℕ → MutBor (List ℕ) → Fml
LendsTail b start r = Lends the_row (Array u8 0) b r (with_tail b.now start)

abbrev pub LendsMore : MutBor BufferState → ℕ → ℕ → MutBor (List ℕ) → Fml
LendsMore b len value r = Lends the_row (Array u8 0) b r (with_more b.now (replicate len value))
