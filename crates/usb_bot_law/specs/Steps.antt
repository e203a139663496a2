-- One read or one write of a client, what it may answer, and what it leaves of a disk.
use Rattle.std.specs.Prelude.{ℕ, ◌≡◌, ◌⊎◌, ◌<◌, ◌≤◌, ◌+◌, ◌*◌, ◌^◌, ◌%◌, List, length, Result, Ok, Err}
use Rattle.usb_bot.specs.declared.error.BotError.{BotError}
use Rattle.usb_bot.specs.declared.error.BotError.TheVariants as error
use Rattle.usb_bot.specs.Clients.{ClientState}
use Rattle.usb_bot.specs.Commands.{Commanding, outcome, blocks_read, blocks_written}
use Rattle.usb_bot.specs.Shortages.{ReadFails, WriteFails}
use Rattle.usb_bot_disk.specs.Blocks.{overwritten, blocks_at}
use Rattle.usb_bot_disk.specs.DiskState.{DiskState}
use Rattle.usb_bot_disk.specs.DiskCalls.{disk_calls}
use Rattle.usb_bot_law.specs.Serving.{Serves, Spoiled}

-- a read of so many blocks from one on gave this answer, and left bus and client so
abbrev pub HasRead : ℕ → ℕ → Commanding DiskState → Result (List ℕ) BotError →
    Commanding DiskState → Type 0
HasRead block count old (Ok bytes) new =
    blocks_read disk_calls block count old ≡ outcome (Ok bytes) new
HasRead block count old (Err e) new = ReadFails disk_calls block count old new e

-- and a write of bytes
abbrev pub HasWritten : ℕ → List ℕ → Commanding DiskState → Result (Unit {0}) BotError →
    Commanding DiskState → Type 0
HasWritten block bytes old (Ok done) new =
    blocks_written disk_calls block bytes old ≡ outcome (Ok done) new
HasWritten block bytes old (Err e) new = WriteFails disk_calls block bytes old new e

-- so many blocks may be read at once, from a block with a number of 32 bits
pub record CanRead (block count : ℕ) : Type 0 where
  pub block_small : block < 2 ^ 32
  pub some : 0 < count
  pub few : count ≤ 64

-- and so many bytes may be written
pub record CanWrite (block : ℕ) (bytes : List ℕ) : Type 0 where
  pub block_small : block < 2 ^ 32
  pub some : 0 < length bytes
  pub few : length bytes ≤ 32768
  pub whole : length bytes % 512 ≡ 0

-- what a read of a disk with these bytes answers and leaves. `Ok` has the blocks that were asked
-- for. The command fails exactly where they are not all there, and then none of them moves. Want of
-- memory may break the client
abbrev pub ReadLeaves : List ℕ → ℕ → ℕ → Result (List ℕ) BotError → DiskState → ClientState →
    Type 0
ReadLeaves blocks block count (Ok bytes) b k =
    (512 * (block + count) ≤ length blocks) × (bytes ≡ blocks_at blocks block count) ×
    Serves b k blocks
ReadLeaves blocks block count (Err (error.Failed residue)) b k =
    (length blocks < 512 * (block + count)) × (residue ≡ 512 * count) × Serves b k blocks
ReadLeaves blocks block count (Err error.Memory) b k = Serves b k blocks ⊎ Spoiled b k blocks
ReadLeaves blocks block count (Err _) b k = ⊥

-- what a write answers and leaves. `Ok` has written the bytes. The command fails exactly where their
-- blocks are not all there, and none of them changes. Want of memory may break the client, and then
-- the bytes may be written
abbrev pub WriteLeaves : List ℕ → ℕ → List ℕ → Result (Unit {0}) BotError → DiskState →
    ClientState → Type 0
WriteLeaves blocks block bytes (Ok done) b k =
    (512 * block + length bytes ≤ length blocks) ×
    Serves b k (overwritten blocks (512 * block) bytes)
WriteLeaves blocks block bytes (Err (error.Failed residue)) b k =
    (length blocks < 512 * block + length bytes) × (residue ≡ length bytes) × Serves b k blocks
WriteLeaves blocks block bytes (Err error.Memory) b k =
    Serves b k blocks
    ⊎ (Spoiled b k blocks
    ⊎ ((512 * block + length bytes ≤ length blocks) × Spoiled b k (overwritten blocks (512 * block) bytes)))
WriteLeaves blocks block bytes (Err _) b k = ⊥
