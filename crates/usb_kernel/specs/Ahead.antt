-- One ticket ahead of another.
use Rattle.std.specs.Prelude.{ℕ, ◌<◌, ◌≡◌, List, [], Some, None, slice_get}
use Rattle.usb_kernel.specs.declared.event.Event.{Event}
use Rattle.usb_kernel.specs.Tickets.{Ticket, tickets}
use Rattle.usb_kernel.specs.Fates.{Fate}
use Rattle.usb_kernel.specs.Journal.{fate}

-- ticket t is open, and u is a later ticket of the same endpoint
pub record IsAhead (past : List Event) (t u : ℕ) : Type 0 where
  pub s : Ticket
  pub r : Ticket
  pub first : slice_get (tickets past) t ≡ Some s
  pub second : slice_get (tickets past) u ≡ Some r
  pub before : t < u
  pub device : s.device ≡ r.device
  pub endpoint : s.endpoint ≡ r.endpoint
  pub none : (fate past t).status ≡ None

-- no packet and no acknowledgement came to a ticket yet
pub record IsUntouched (f : Fate) : Type 0 where
  pub packets : f.packets ≡ []
  pub acks : f.acks ≡ 0
