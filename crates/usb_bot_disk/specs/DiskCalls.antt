-- What the calls of endpoints make of a bus with a simulated disk.
use Rattle.std.specs.Prelude.{ℕ, ◌+◌, ◌*◌, ◌/◌, ◌^◌, Bool, List, [], ◌++◌, length, drop, replicate, Option, Some, None, is_some, not, nat_le, ◌==◌, ◌&&◌, if◌then◌else◌}
use Rattle.usb_xfer.specs.BufferState.{BufferState}
use Rattle.usb_xfer.specs.declared.transfer.TransferData.{TransferData}
use Rattle.usb_xfer.specs.Transfers.{buffer_held}
use Rattle.usb_kernel.specs.declared.event.Event.{Event}
use Rattle.usb_kernel.specs.Journal.{oldest}
use Rattle.usb_device_endpoint.specs.declared.route.Route.{Route}
use Rattle.usb_device_endpoint.specs.BusState.{BusState}
use Rattle.usb_device_endpoint.specs.BusCalls.{BusCalls}
use Rattle.usb_device_host.specs.HostState.{HostState}
use Rattle.usb_device_host.specs.HostBus.{bus_of}
use Rattle.usb_device_host.specs.TicketEnds.{host_taken, host_abandoned}
use Rattle.usb_device_host.specs.HostCalls.{host_submitted, host_refused, host_discarded, host_left, host_idled, host_halt_result, host_halt_cleared}
use Rattle.usb_device_host.specs.DeviceHandles.{DeviceHandlesStand}
use Rattle.usb_bot_disk.specs.Machine.{weight}
use Rattle.usb_bot_disk.specs.Standing.{packets_standing}
use Rattle.usb_bot_disk.specs.DiskState.{DiskState}
use Rattle.usb_bot_disk.specs.DiskTurns.{disk_turned, disk_turn}

-- what one OUT packet weighs: more than all that one wrapper makes the disk send
abbrev pub packet_weight : ℕ
packet_weight = 2 ^ 26

-- the packets that stand and what the disk has to send, as the first of two numbers in one
abbrev pub disk_load : DiskState → List Event → ℕ
disk_load b past =
    (packet_weight * packets_standing past b.device b.out + weight b.machine.stage) * 2 ^ 64

-- a host's bus, with this beside the steps of the line that are left
abbrev pub with_load : DiskState → BusState → BusState
with_load b s = record s { turns_left = s.turns_left + disk_load b s.past }

abbrev pub disk_bus_of : DiskState → BusState
disk_bus_of b = with_load b (bus_of b.host)

-- how many bytes a buffer moves by a route: those that are wanted (IN), or those that are sent (OUT)
abbrev pub length_by : Route → BufferState → ℕ
length_by to b = if nat_le 128 to.endpoint then b.requested else length b.bytes

-- how many packets of the maximum size these are
abbrev pub full_packets : ℕ → ℕ → ℕ
full_packets n maximum = if maximum == 0 then 0 else n / maximum

-- a host with room for so many steps more
abbrev pub roomier : HostState → ℕ → HostState
roomier h n = record h { kernel = record h.kernel { spare = h.kernel.spare + n } }

-- room for the full packets of n bytes, for a shorter one behind them, and for one step more
abbrev pub room_for : Route → ℕ → ℕ
room_for to n = full_packets n to.maximum + 2

-- whether a route leads to the endpoint on which the disk sends
abbrev pub is_inp : DiskState → Route → Bool
is_inp b to = to.device == b.device && to.endpoint == b.inp

-- the empty packets for what the disk sends into a buffer of n bytes
abbrev pub blanks_for : DiskState → Route → ℕ → List ℕ
blanks_for b to n =
    if is_inp b to then replicate (full_packets n to.maximum) to.maximum else []

-- how many of those that are ready are dropped first: where no ticket is open that they can be for,
-- all of them
abbrev pub dropped_by : DiskState → Route → ℕ
dropped_by b to =
    if is_inp b to && not (is_some (oldest b.host.kernel.past b.device b.inp)) then length b.blanks
    else 0

-- the bus once all is ready for a transfer of n bytes by a route
abbrev pub prepared : DiskState → Route → ℕ → DiskState
prepared b to n =
    record b {
      host = roomier b.host (room_for to n);
      blanks = b.blanks ++ blanks_for b to n;
    }

-- a transfer was submitted, with a deadline or none: first room and empty packets are made ready
abbrev pub submitted_by : DiskState → Route → Option ℕ → TransferData → Option BufferState → DiskState
submitted_by b to deadline t None = record b { host = host_submitted b.host to deadline t }
submitted_by b to deadline t (Some buffer) =
    record b {
      host = host_submitted (roomier b.host (room_for to (length_by to buffer))) to deadline t;
      blanks = drop (dropped_by b to) (b.blanks ++ blanks_for b to (length_by to buffer));
    }

unfoldable pub disk_submitted : DiskState → Route → Option ℕ → TransferData → DiskState
disk_submitted b to deadline t = submitted_by b to deadline t (buffer_held t.held)

-- the other calls are those of the host
abbrev pub with_host : DiskState → HostState → DiskState
with_host b h = record b { host = h }

-- what a bus with a disk is to its endpoints, and what their calls leave of it
abbrev pub disk_calls : BusCalls DiskState
disk_calls =
    record {
      state = disk_bus_of;
      submitted = disk_submitted;
      refused = λ b to t errno. with_host b (host_refused b.host to t errno);
      discarded = λ b t. with_host b (host_discarded b.host t);
      abandoned = λ b t. with_host b (host_abandoned b.host t);
      taken = λ b t. with_host b (host_taken b.host t);
      closed = λ b k. with_host b (host_left b.host k);
      turned = disk_turned;
      turn_of = disk_turn;
      idled = λ b until. with_host b (host_idled b.host until);
      halt_cleared = λ b device endpoint. with_host b (host_halt_cleared b.host device endpoint);
      halt_result = λ b device endpoint. host_halt_result b.host device endpoint;
    }

-- the handles of devices and interfaces stand as at the host
abbrev pub DiskHandlesStand : DiskState → DiskState → Type 0
DiskHandlesStand old new = DeviceHandlesStand old.host new.host
