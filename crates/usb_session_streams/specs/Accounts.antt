-- The accounts of a host: its claims, and the tickets that endpoints hold.
use Rattle.std.specs.Prelude.{ℕ, ◌≡◌, ◌≢◌, List, length, Some}
use Rattle.std.specs.List.{Contains}
use Rattle.usb_kernel.specs.Tickets.{tickets}
use Rattle.usb_device_host.specs.HostState.{HostState}
use Rattle.usb_device_host.specs.HostBus.{owner_at}
use Rattle.usb_device.specs.OwnerLaws.{KeepsOwned}

-- there are as many tickets at the host as in its journal
abbrev pub TicketsAreCounted : HostState → Type 0
TicketsAreCounted h = length h.tickets ≡ length (tickets h.kernel.past)

-- each ticket that the endpoint of a key holds is one of these
abbrev pub HoldsOnly : HostState → ℕ → List ℕ → Type 0
HoldsOnly h key ts = (t : ℕ) → owner_at h.tickets t ≡ Some key → Contains ts t

-- over a call on no endpoint: the claims stay owned, the tickets stay counted, and whoever holds a
-- ticket held it before
pub record KeepsAccounts (old new : HostState) : Type 0 where
  pub claims : KeepsOwned old new
  pub count : TicketsAreCounted old → TicketsAreCounted new
  pub held : (t k : ℕ) → owner_at new.tickets t ≡ Some k → owner_at old.tickets t ≡ Some k

-- over a call on the endpoint of a key it is so of all other endpoints. Where each ticket that this
-- one held was pending at it before, each that it holds is then
pub record KeepsAccountsOf (old new : HostState) (key : ℕ) (before after : List ℕ) : Type 0 where
  pub claims : KeepsOwned old new
  pub count : TicketsAreCounted old → TicketsAreCounted new
  pub others : (t k : ℕ) → k ≢ key → owner_at new.tickets t ≡ Some k →
      owner_at old.tickets t ≡ Some k
  pub own : TicketsAreCounted old → HoldsOnly old key before → HoldsOnly new key after
