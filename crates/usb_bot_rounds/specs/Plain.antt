-- What a plain list of blocks answers to commands.
use Rattle.std.specs.Prelude.{ℕ, ◌+◌, ◌*◌, Bool, List, [], ◌∷◌, length, nat_le, if◌then◌else◌}
use Rattle.usb_bot_disk.specs.Blocks.{overwritten, blocks_at}

-- a command: bytes are written to the blocks from one on, or so many blocks from one on are read
pub data PlainCommand : Type 0 where
  Writes : ℕ → List ℕ → PlainCommand
  Reads : ℕ → ℕ → PlainCommand

-- what it answers: that the bytes are written, the bytes of the blocks that were read, or that the
-- blocks are not all there
pub data PlainAnswer : Type 0 where
  Wrote : PlainAnswer
  Gave : List ℕ → PlainAnswer
  Refused : PlainAnswer

-- whether bytes from a block on end within the list, which is that of the bytes of all blocks
abbrev pub has_room : List ℕ → ℕ → ℕ → Bool
has_room blocks block bytes = nat_le (512 * block + bytes) (length blocks)

abbrev pub plain_answer : List ℕ → PlainCommand → PlainAnswer
plain_answer blocks (Writes block bytes) = if has_room blocks block (length bytes) then Wrote else Refused
plain_answer blocks (Reads block count) =
    if has_room blocks block (512 * count) then Gave (blocks_at blocks block count) else Refused

-- the list behind a command
abbrev pub list_behind : List ℕ → PlainCommand → List ℕ
list_behind blocks (Writes block bytes) =
    if has_room blocks block (length bytes) then overwritten blocks (512 * block) bytes else blocks
list_behind blocks (Reads block count) = blocks

-- the list behind some commands, one after another
abbrev pub list_behind_all : List ℕ → List PlainCommand → List ℕ
list_behind_all blocks [] = blocks
list_behind_all blocks (c ∷ cs) = list_behind_all (list_behind blocks c) cs

-- what it answers to some commands, each as the ones before it left the list
abbrev pub plain_answers : List ℕ → List PlainCommand → List PlainAnswer
plain_answers blocks [] = []
plain_answers blocks (c ∷ cs) = plain_answer blocks c ∷ plain_answers (list_behind blocks c) cs
