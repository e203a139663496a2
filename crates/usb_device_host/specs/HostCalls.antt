-- What the calls of endpoints make of a host. A `TransferData` is a transfer: its endpoint's address and type,
-- and what it holds (usb_xfer/src/transfer.rt).
use Rattle.std.specs.Prelude.{ℕ, set, false, [], ◌∷◌, ◌++◌, max, Option, Some, None, Result}
use Rattle.usb_xfer.specs.BufferState.{BufferState}
use Rattle.usb_xfer.specs.declared.transfer.TransferData.{TransferData}
use Rattle.usb_xfer.specs.Transfers.{buffer_held}
use Rattle.usb_kernel.specs.Value.{KernelState}
use Rattle.usb_kernel_devices.specs.declared.step.KernelCall.TheVariants as call
use Rattle.usb_kernel_devices.specs.Claims.{no_rules, ok_unless}
use Rattle.usb_kernel_devices.specs.Calls.{same}
use Rattle.usb_kernel.specs.Calls.{errno_of, called}
use Rattle.usb_kernel.specs.Submits.{kernel_submitted, kernel_refused}
use Rattle.usb_kernel.specs.Timers.{timer_turned}
use Rattle.usb_kernel.specs.Steps.{after_discard}
use Rattle.usb_device_endpoint.specs.declared.route.Route.{Route}
use Rattle.usb_device_endpoint.specs.BusCalls.{BusCalls}
use Rattle.usb_device_endpoint.specs.Routes.{submission_of}
use Rattle.usb_device_tables.specs.History.{value_at}
use Rattle.usb_device_ledger.specs.Entries.{HostEndpoint, HeldBy}
use Rattle.usb_device_ledger.specs.Slots.{slots_with}
use Rattle.usb_device_host.specs.HostState.{HostState}
use Rattle.usb_device_host.specs.Releases.{settled}
use Rattle.usb_device_host.specs.TicketEnds.{host_taken, host_abandoned}
use Rattle.usb_device_host.specs.HostTurns.{with_past, host_turned, host_turn}
use Rattle.usb_device_host.specs.HostBus.{bus_of}

-- the endpoint of a route holds the next ticket, which has a slot (`slots_with`: Slots.antt of
-- usb_device_ledger)
abbrev pub with_held : HostState → Route → TransferData → KernelState → HostState
with_held h to t kernel =
    record h {
      kernel = kernel;
      tickets =
          h.tickets ++ HeldBy (record { key = to.key; endpoint = t.endpoint; kind = t.kind }) ∷ [];
      slot_count = slots_with h.tickets h.slot_count;
    }

-- the buffer of a transfer was submitted, with a deadline or none, refused or not
abbrev pub submitted_with : HostState → Route → Option ℕ → TransferData → Option BufferState →
    HostState
submitted_with h to deadline t None = h
submitted_with h to deadline t (Some b) =
    with_held h to t (kernel_submitted h.kernel (submission_of to deadline b))

-- the transfer t was submitted by a route, with a deadline or none
unfoldable pub host_submitted : HostState → Route → Option ℕ → TransferData → HostState
host_submitted h to deadline t = submitted_with h to deadline t (buffer_held t.held)

-- it was refused with an errno, whatever the kernel would have answered
abbrev pub refused_with : HostState → Route → TransferData → ℕ → Option BufferState → HostState
refused_with h to t errno None = h
refused_with h to t errno (Some b) =
    with_held h to t (kernel_refused h.kernel (submission_of to None b) errno)

-- the transfer t was refused
unfoldable pub host_refused : HostState → Route → TransferData → ℕ → HostState
host_refused h to t errno = refused_with h to t errno (buffer_held t.held)

-- a ticket was discarded
unfoldable pub host_discarded : HostState → ℕ → HostState
host_discarded h t = with_past h (after_discard h.kernel.past t)

-- the handle of an endpoint is closed. The endpoint lives on only while a ticket of it has no end (`settled`: Releases.antt)
abbrev pub closed_if : HostState → ℕ → Option HostEndpoint → HostState
closed_if h k None = h
closed_if h k (Some e) =
    settled (record h { endpoints = set h.endpoints k (Some (record e { is_open = false })) }) k

-- the same, with the endpoint looked up by its key
unfoldable pub host_left : HostState → ℕ → HostState
host_left h k = closed_if h k (value_at h.endpoints k)

-- the timer had its turn
abbrev pub host_timed : HostState → HostState
host_timed h = with_past h (timer_turned h.kernel.clock h.kernel.past)

-- the clock was raised, and the timer had its turn
abbrev pub host_idled : HostState → ℕ → HostState
host_idled h until =
    record h {
      kernel = record h.kernel {
        clock = max h.kernel.clock until;
        past = timer_turned (max h.kernel.clock until) h.kernel.past;
      };
    }

-- the kernel's answer to the clearing of a halt, a call with no rule of refusal (`no_rules`: Claims.antt of usb_kernel_devices)
abbrev pub host_halt_result : HostState → ℕ → ℕ → Result (Unit {0}) ℕ
host_halt_result h device endpoint = ok_unless (errno_of h.kernel device call.Halt no_rules)

-- and the host after it
abbrev pub host_halt_cleared : HostState → ℕ → ℕ → HostState
host_halt_cleared h device endpoint =
    record h { kernel = called h.kernel device call.Halt no_rules same }

-- what a host is to its endpoints, and what their calls leave of it (`BusCalls`: usb_device_endpoint)
abbrev pub host_calls : BusCalls HostState
host_calls =
    record {
      state = bus_of;
      submitted = host_submitted;
      refused = host_refused;
      discarded = host_discarded;
      abandoned = host_abandoned;
      taken = host_taken;
      closed = host_left;
      turned = host_turned;
      turn_of = host_turn;
      idled = host_idled;
      halt_cleared = host_halt_cleared;
      halt_result = host_halt_result;
    }
