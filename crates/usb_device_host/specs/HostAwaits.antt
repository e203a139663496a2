-- How the wait for a control transfer goes at a host.
use Rattle.std.specs.Prelude.{ℕ, ◌+◌, ◌*◌, List, length, Option, slice_get, option_and_then, if◌then◌else◌, zero, suc}
use Rattle.usb_kernel.specs.declared.event.Event.{Event}
use Rattle.usb_kernel.specs.Tickets.{Ticket, tickets}
use Rattle.usb_device_endpoint.specs.Waits.{time_is_up, is_reaped, unless}
use Rattle.usb_device_host.specs.HostState.{HostState}
use Rattle.usb_device_host.specs.HostTurns.{host_turned, host_turn}
use Rattle.usb_device_host.specs.HostCalls.{host_idled, host_calls}

-- the deadline of a ticket
abbrev pub deadline_of : List Event → ℕ → Option ℕ
deadline_of past t = option_and_then (λ (s : Ticket). s.deadline) (slice_get (tickets past) t)

-- a turn; where time is up the clock is raised to a deadline, at which the timer has its turn
abbrev pub host_turned_until : HostState → ℕ → HostState
host_turned_until h deadline =
    if time_is_up (host_turn h) then host_idled (host_turned h) deadline else host_turned h

-- a look at the ticket, such a turn, and so on until the ticket is reaped. The number only ends the
-- recursion
abbrev pub awaited_from : ℕ → ℕ → ℕ → HostState → HostState
awaited_from t deadline zero h = h
awaited_from t deadline (suc n) h =
    unless (is_reaped host_calls t h) h (λ h.
    awaited_from t deadline n (host_turned_until h deadline))

-- a wait for a ticket, for as long as it takes. Turns are the steps that are left, then reaps, the
-- raise of the clock to the ticket's deadline, and reaps again, so the number is never used up
unfoldable pub host_awaited : HostState → ℕ → ℕ → HostState
host_awaited h t deadline =
    awaited_from t deadline (length h.steps + 2 * length (tickets h.kernel.past) + 2) h
