-- What a host is as a bus.
use Rattle.std.specs.Prelude.{ℕ, ◌+◌, ◌*◌, ◌^◌, Bool, false, List, length, Option, Some, None, slice_get, option_and_then}
use Rattle.std.specs.Option.{option_map, option_map_or}
use Rattle.usb_xfer.specs.declared.transfer.TransferData.{TransferData}
use Rattle.usb_kernel.specs.Completions.{waiting}
use Rattle.usb_device_endpoint.specs.BusState.{BusState}
use Rattle.usb_kernel.specs.TransferCompletions.{transfer_completion}
use Rattle.usb_kernel.specs.Holds.{value_for}
use Rattle.usb_device_tables.specs.History.{value_at}
use Rattle.usb_device_ledger.specs.Entries.{Hold, HostTicket, HostEndpoint, HeldBy, Abandoned, Ended}
use Rattle.usb_device_host.specs.HostState.{HostState}

-- what the endpoint that holds a ticket has of it
abbrev pub held_as : HostTicket → Option Hold
held_as (HeldBy hold) = Some hold
held_as (Abandoned key) = None
held_as (Ended end) = None

abbrev pub hold_at : List HostTicket → ℕ → Option Hold
hold_at tickets t = option_and_then held_as (slice_get tickets t)

-- the key of that endpoint, which is called the owner of the ticket (the owners of interfaces are in Owners.antt)
abbrev pub owner_at : List HostTicket → ℕ → Option ℕ
owner_at tickets t = option_map (λ hold. hold.key) (hold_at tickets t)

-- whether the endpoint of a key is open
abbrev pub key_at : List (Option HostEndpoint) → ℕ → Bool
key_at endpoints k = option_map_or (λ (e : HostEndpoint). e.is_open) (value_at endpoints k) false

-- the steps that are left, and then the tickets that are finished and not reaped, as one number
abbrev pub turns_left : HostState → ℕ
turns_left h = length h.steps * 2 ^ 64 + length (waiting h.kernel.past)

abbrev pub bus_of : HostState → BusState
bus_of h =
    record {
      past = h.kernel.past;
      clock = h.kernel.clock;
      owner = owner_at h.tickets;
      keys = key_at h.endpoints;
      turns_left = turns_left h;
    }

-- the transfer of a ticket that an endpoint holds, once its completion has come
abbrev pub host_value : HostState → ℕ → Option TransferData
host_value h t = value_for (transfer_completion h.kernel.past t) (hold_at h.tickets t)
