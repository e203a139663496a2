-- What a partition is to its users.
use Rattle.std.specs.Prelude.{ℕ}
use Rattle.usb_bot.specs.Clients.{ClientState}

-- the client of its disk, its first block there, and how many blocks it has
pub record PartitionState : Type 0 where
  pub client : ClientState
  pub first : ℕ
  pub blocks : ℕ
