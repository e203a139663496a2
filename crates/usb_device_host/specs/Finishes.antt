-- The end: the tickets are discarded by number, and then reaped by number.
use Rattle.std.specs.Prelude.{ℕ, zero, suc, ◌≡◌, ◌<◌, List, length, IsSome, None}
use Rattle.usb_device_tables.specs.History.{value_at}
use Rattle.usb_kernel.specs.declared.event.Event.{Event}
use Rattle.usb_kernel.specs.Tickets.{tickets}
use Rattle.usb_kernel.specs.Completions.{completion}
use Rattle.usb_device_ledger.specs.Entries.{HostTicket}
use Rattle.usb_device_host.specs.HostState.{HostState}
use Rattle.usb_device_ledger.specs.EndedTickets.{end_at}
use Rattle.usb_device_host.specs.HostTurns.{host_reaped}
use Rattle.usb_device_host.specs.HostCalls.{host_discarded}

-- the tickets below k are discarded, by number
abbrev pub discarded_below : HostState → ℕ → HostState
discarded_below h zero = h
discarded_below h (suc k) = host_discarded (discarded_below h k) k

-- the tickets below k are reaped, by number
abbrev pub reaped_below : HostState → ℕ → HostState
reaped_below h zero = h
reaped_below h (suc k) = host_reaped (reaped_below h k) k

-- the host when all its tickets were discarded, and then reaped
unfoldable pub finished : HostState → HostState
finished h =
    reaped_below (discarded_below h (length (tickets h.kernel.past)))
    (length (tickets h.kernel.past))

-- each ticket has an end
abbrev pub HasEnds : List HostTicket → Type 0
HasEnds tickets = (t : ℕ) → t < length tickets → IsSome (end_at tickets t)

-- each ticket of a journal has its completion
abbrev pub HasCompletions : List Event → Type 0
HasCompletions past = (t : ℕ) → t < length (tickets past) → IsSome (completion past t)

-- no open device is kept, no claimed interface and no endpoint
pub record KeepsNothing (h : HostState) : Type 0 where
  pub devices : (k : ℕ) → value_at h.devices k ≡ None
  pub interfaces : (k : ℕ) → value_at h.interfaces k ≡ None
  pub endpoints : (k : ℕ) → value_at h.endpoints k ≡ None
