-- Lists of reads and writes with what they answered, over a plain list of blocks.
use Rattle.std.specs.Prelude.{ℕ, ◌≡◌, ◌⊎◌, ◌<◌, ◌≤◌, ◌+◌, ◌*◌, List, [], ◌∷◌, ◌++◌, length, Result, Ok, Err}
use Rattle.usb_bot.specs.declared.error.BotError.{BotError}
use Rattle.usb_bot.specs.declared.error.BotError.TheVariants as error
use Rattle.usb_bot.specs.Commands.{Commanding}
use Rattle.usb_bot_disk.specs.Blocks.{overwritten, blocks_at}
use Rattle.usb_bot_disk.specs.DiskState.{DiskState}
use Rattle.usb_bot_law.specs.Serving.{Serves, Spoiled}
use Rattle.usb_bot_law.specs.Steps.{HasRead, HasWritten, CanRead, CanWrite}

-- a read of so many blocks from one on, or a write of bytes to those from one on, with its answer
pub data Answered : Type 0 where
  WasRead : ℕ → ℕ → Result (List ℕ) BotError → Answered
  WasWritten : ℕ → List ℕ → Result (Unit {0}) BotError → Answered

-- the call may be made
abbrev pub CanBe : Answered → Type 0
CanBe (WasRead block count answer) = CanRead block count
CanBe (WasWritten block bytes answer) = CanWrite block bytes

-- it was made, and left bus and client so
abbrev pub HasGone : Answered → Commanding DiskState → Commanding DiskState → Type 0
HasGone (WasRead block count answer) old new = HasRead block count old answer new
HasGone (WasWritten block bytes answer) old new = HasWritten block bytes old answer new

-- these calls were made, one behind the other, and nothing else
abbrev pub HaveGone : List Answered → Commanding DiskState → Commanding DiskState → Type 0
HaveGone [] old new = new ≡ old
HaveGone (call ∷ calls) old new =
    CanBe call × (mid : Commanding DiskState) × HasGone call old mid × HaveGone calls mid new

-- a plain list of blocks after a call: a write that answered `Ok` changes it, and nothing else does
abbrev pub list_after : List ℕ → Answered → List ℕ
list_after blocks (WasRead block count answer) = blocks
list_after blocks (WasWritten block bytes (Ok done)) = overwritten blocks (512 * block) bytes
list_after blocks (WasWritten block bytes (Err e)) = blocks

-- and after many
abbrev pub list_after_all : List ℕ → List Answered → List ℕ
list_after_all blocks [] = blocks
list_after_all blocks (call ∷ calls) = list_after_all (list_after blocks call) calls

-- a call has the answer of a plain list of blocks: the blocks that were asked for, or that they are
-- not all there, with no byte moved; or memory was lacking
abbrev pub IsOfList : List ℕ → Answered → Type 0
IsOfList blocks (WasRead block count (Ok bytes)) =
    (512 * (block + count) ≤ length blocks) × (bytes ≡ blocks_at blocks block count)
IsOfList blocks (WasRead block count (Err (error.Failed residue))) =
    (length blocks < 512 * (block + count)) × (residue ≡ 512 * count)
IsOfList blocks (WasRead block count (Err error.Memory)) = Unit {0}
IsOfList blocks (WasRead block count (Err _)) = ⊥
IsOfList blocks (WasWritten block bytes (Ok done)) = 512 * block + length bytes ≤ length blocks
IsOfList blocks (WasWritten block bytes (Err (error.Failed residue))) =
    (length blocks < 512 * block + length bytes) × (residue ≡ length bytes)
IsOfList blocks (WasWritten block bytes (Err error.Memory)) = Unit {0}
IsOfList blocks (WasWritten block bytes (Err _)) = ⊥

-- each call has the answer of the list as the calls before it left that
abbrev pub AreOfList : List ℕ → List Answered → Type 0
AreOfList blocks [] = Unit {0}
AreOfList blocks (call ∷ calls) = IsOfList blocks call × AreOfList (list_after blocks call) calls

-- one of these calls was a write that lacked memory and broke the client: behind the calls before it
-- (before) the client was served, and the disk had these blocks; it left bus and client as they are,
-- and its data stand in the blocks
pub record SpoiledBy (calls : List Answered) (first : Commanding DiskState) (blocks : List ℕ)
    (left : Commanding DiskState) : Type 0 where
  pub before : List Answered
  pub block : ℕ
  pub bytes : List ℕ
  pub behind : List Answered
  pub are : calls ≡ before ++ WasWritten block bytes (Err error.Memory) ∷ behind
  pub at : Commanding DiskState
  pub gone : HaveGone before first at
  pub serves : Serves at.bus at.client blocks
  pub write : HasWritten block bytes at (Err error.Memory) left
  pub within : 512 * block + length bytes ≤ length blocks
  pub spoiled : Spoiled left.bus left.client (overwritten blocks (512 * block) bytes)

-- what is left of bus and client (first) behind calls: the disk has these blocks, and the client goes
-- on or is broken by want of memory; or the data of the write that broke it stand in them too
abbrev pub HoldsList : List Answered → Commanding DiskState → List ℕ → Commanding DiskState →
    Type 0
HoldsList calls first blocks left =
    Serves left.bus left.client blocks
    ⊎ (Spoiled left.bus left.client blocks ⊎ SpoiledBy calls first blocks left)
