-- How the tickets of a host end.
use Rattle.std.specs.Prelude.{ℕ, set, Option, Some, None, is_some, slice_get, if◌then◌else◌}
use Rattle.usb_kernel.specs.declared.submission.Done.{Done}
use Rattle.usb_kernel.specs.Completions.{completion}
use Rattle.usb_device_ledger.specs.declared.ends.TicketEnd.{TicketEnd}
use Rattle.usb_device_ledger.specs.declared.ends.TicketEnd.TheVariants.{Taken, Dropped, Reclaimed}
use Rattle.usb_device_ledger.specs.Entries.{HostTicket, HeldBy, Abandoned, Ended}
use Rattle.usb_device_host.specs.HostState.{HostState}
use Rattle.usb_device_host.specs.Releases.{settled}

-- this became of ticket t
abbrev pub with_ticket : HostState → ℕ → HostTicket → HostState
with_ticket h t ticket = record h { tickets = set h.tickets t ticket }

-- a ticket gets its end. Where its endpoint is closed and this was the last of its tickets without
-- one, the endpoint lives no more, and the claim of its interface may end (`settled`:
-- Releases.antt)
abbrev pub ended_as : HostState → ℕ → TicketEnd → Option HostTicket → HostState
ended_as h t end None = h
ended_as h t end (Some (HeldBy hold)) = settled (with_ticket h t (Ended end)) hold.key
ended_as h t end (Some (Abandoned key)) = settled (with_ticket h t (Ended end)) key
ended_as h t end (Some (Ended before)) = h

-- the same, with the ticket looked up
unfoldable pub host_ended : HostState → ℕ → TicketEnd → HostState
host_ended h t end = ended_as h t end (slice_get h.tickets t)

-- an endpoint takes the completion of a ticket
unfoldable pub host_taken : HostState → ℕ → HostState
host_taken h t = host_ended h t Taken

-- an endpoint gives a ticket up that is not reaped
abbrev pub given_up : HostState → ℕ → Option HostTicket → HostState
given_up h t (Some (HeldBy hold)) = with_ticket h t (Abandoned hold.key)
given_up h t _ = h

-- an endpoint gives a ticket up: one that is reaped is dropped
unfoldable pub host_abandoned : HostState → ℕ → HostState
host_abandoned h t =
    if is_some (completion h.kernel.past t) then host_ended h t Dropped
    else given_up h t (slice_get h.tickets t)

-- a completion has come: one that was given up is reclaimed
abbrev pub reclaimed_if : HostState → ℕ → Option HostTicket → HostState
reclaimed_if h t (Some (Abandoned key)) = host_ended h t Reclaimed
reclaimed_if h t _ = h

-- the kernel gave this completion, if any
unfoldable pub came : HostState → Option Done → HostState
came h None = h
came h (Some done) = reclaimed_if h done.ticket (slice_get h.tickets done.ticket)
