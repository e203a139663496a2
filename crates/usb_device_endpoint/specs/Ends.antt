-- The end of a ticket: it was taken, or given up.
use Rattle.std.specs.Prelude.{ℕ, ◌≡◌, ◌<◌, ◌≤◌, ◌⊎◌, length, None}
use Rattle.usb_kernel.specs.Tickets.{tickets}
use Rattle.usb_device_endpoint.specs.BusState.{BusState, with_owner, without_owner}
use Rattle.usb_device_endpoint.specs.Later.{Extends}

-- a ticket of the journal that no endpoint holds
pub record HasEnded (b : BusState) (t : ℕ) : Type 0 where
  pub is : t < length (tickets b.past)
  pub free : b.owner t ≡ None

-- the journal went on; and endpoints hold what they held, or a ticket has ended, or the next ticket
-- has come to one
pub record Moved (old new : BusState) : Type 0 where
  pub past : Extends old.past new.past
  pub owner : (new.owner ≡ old.owner) ⊎
      (((t : ℕ) × (new.owner ≡ without_owner old.owner t)) ⊎
      ((t : ℕ) × (k : ℕ) × (length (tickets old.past) ≤ t) ×
      (new.owner ≡ with_owner old.owner t k)))
