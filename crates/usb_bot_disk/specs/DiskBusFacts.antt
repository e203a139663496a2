-- The tickets of a bus with a disk are those of its host.
use Rattle.std.specs.Prelude.{ℕ, ◌≡◌}
use Rattle.std.proofs.Common.{ap}
use Rattle.usb_device_endpoint.specs.BusState.{without_owner}
use Rattle.usb_device_host.specs.HostBus.{owner_at}
use Rattle.usb_device_host.specs.HostBusFacts.{bus_of-taken}
use Rattle.usb_device_host.specs.TicketEnds.{host_taken}
use Rattle.usb_bot_disk.specs.DiskState.{DiskState}
use Rattle.usb_bot_disk.specs.DiskCalls.{with_load, with_host, disk_bus_of}

-- to take a completion ends the ticket, and changes nothing else
pub state-taken : (b : DiskState) (t : ℕ) →
    disk_bus_of (with_host b (host_taken b.host t))
    ≡ record (disk_bus_of b) { owner = without_owner (owner_at b.host.tickets) t }
state-taken b t = ap (with_load b) (bus_of-taken b.host t)
