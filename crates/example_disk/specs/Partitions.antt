-- What calls on a partition do: what the client does at the block of the disk.
use Rattle.std.specs.Prelude.{ℕ, ◌+◌, ◌≤◌, ◌≡◌, List, Ok}
use Rattle.usb_device_endpoint.specs.BusCalls.{BusCalls}
use Rattle.usb_bot.specs.Commands.{commanding, outcome, blocks_read, blocks_written}
use Rattle.usb_bot.specs.Shortages.{ReadFails, WriteFails}
use Rattle.example_disk.specs.States.{PartitionState}
use Rattle.example_disk.specs.declared.Fault.{Fault}
use Rattle.example_disk.specs.declared.Fault.TheVariants.{Outside, Disk}

module _ {S : Type 0} (k : BusCalls S) (block : ℕ) where
  -- the block was read from the disk
  abbrev pub IsRead : List ℕ → S → PartitionState → S → PartitionState → Type 0
  IsRead bytes old p new p' =
      blocks_read k (p.first + block) 1 (commanding old p.client) ≡ outcome (Ok bytes) (commanding new p'.client)

  -- the block was written to the disk
  abbrev pub IsWritten : List ℕ → S → PartitionState → S → PartitionState → Type 0
  IsWritten bytes old p new p' =
      blocks_written k (p.first + block) bytes (commanding old p.client) ≡ outcome (Ok tt) (commanding new p'.client)

  -- there is no such block, or the client failed so
  abbrev pub ReadFailsBy : S → PartitionState → S → PartitionState → Fault → Type 0
  ReadFailsBy old p new p' Outside = p.blocks ≤ block
  ReadFailsBy old p new p' (Disk why) = ReadFails k (p.first + block) 1 (commanding old p.client) (commanding new p'.client) why

  abbrev pub WriteFailsBy : List ℕ → S → PartitionState → S → PartitionState → Fault → Type 0
  WriteFailsBy bytes old p new p' Outside = p.blocks ≤ block
  WriteFailsBy bytes old p new p' (Disk why) = WriteFails k (p.first + block) bytes (commanding old p.client) (commanding new p'.client) why
