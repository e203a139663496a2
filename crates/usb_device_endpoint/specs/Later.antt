-- How a bus goes on.
use Rattle.std.specs.Prelude.{ℕ, ◌≡◌, ◌≤◌, Option}
use Rattle.usb_device_endpoint.specs.BusState.{BusState, without_owner}
-- the old journal is the beginning of the new one (it stands behind the new events, which come first)
pub use Rattle.usb_kernel.specs.Extends.{Extends}

-- events may have come and time may have passed, and these are the owners of the tickets then
pub record LaterWith (old new : BusState) (owners : ℕ → Option ℕ) : Type 0 where
  pub past : Extends old.past new.past
  pub clock : old.clock ≤ new.clock
  pub owner : new.owner ≡ owners
  pub keys : new.keys ≡ old.keys

-- nothing that endpoints hold has ended
abbrev pub IsLater : BusState → BusState → Type 0
IsLater old new = LaterWith old new old.owner

-- this ticket has ended: its endpoint holds it no more
abbrev pub IsLaterWithout : BusState → BusState → ℕ → Type 0
IsLaterWithout old new t = LaterWith old new (without_owner old.owner t)

-- the journal and the clock went on, and no turn was added
pub record GoesOn (old new : BusState) : Type 0 where
  pub past : Extends old.past new.past
  pub clock : old.clock ≤ new.clock
  pub left : new.turns_left ≤ old.turns_left
