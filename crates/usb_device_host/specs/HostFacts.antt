-- What is true of all hosts.
use Rattle.std.specs.Prelude.{ℕ, ◌≡◌, ◌≤◌, List, map, length, Option, Some, None, slice_get}
use Rattle.std.specs.List.{All}
use Rattle.std.specs.VecDeque.{deque_len}
use Rattle.usb_kernel.specs.declared.event.Event.{Event}
use Rattle.usb_kernel_devices.specs.declared.step.KernelStep.{KernelStep}
use Rattle.usb_kernel.specs.Value.{KernelState}
use Rattle.usb_kernel.specs.Tickets.{tickets}
use Rattle.usb_kernel.specs.Completions.{completion}
use Rattle.usb_kernel.specs.Steps.{HasErrno}
use Rattle.usb_kernel.specs.TransferCompletions.{transfer_completion}
use Rattle.usb_kernel.specs.Holds.{held_of}
use Rattle.usb_device_ledger.specs.declared.opened.OpenDevice.{OpenDevice}
use Rattle.usb_device_ledger.specs.TicketStates.{TicketState}
use Rattle.usb_device_ledger.specs.TicketStates as slot
use Rattle.usb_device_host.specs.declared.host.Host.TheInside.{Inside}
use Rattle.usb_device_host.specs.HostState.{HostState}
use Rattle.usb_device_ledger.specs.LedgerState.{LedgerState, host_ticket}

-- a host by its parts
abbrev pub host_made : KernelState → List (Option OpenDevice) → LedgerState → List KernelStep → HostState
host_made kernel devices l steps =
    record {
      kernel = kernel;
      devices = devices;
      interfaces = l.interfaces;
      endpoints = l.endpoints;
      tickets = map host_ticket l.slots;
      steps = steps;
      slot_count = l.slot_count;
    }

-- a slot is what the journal says: a transfer that an endpoint holds has its completion as soon as
-- the ticket is reaped, and a ticket that was given up and has no end is not reaped
abbrev pub Fits : List Event → ℕ → TicketState → Type 0
Fits past t (slot.HeldBy key transfer) = transfer.held ≡ held_of (transfer_completion past t)
Fits past t (slot.Abandoned key) = completion past t ≡ None
Fits past t (slot.Ended end) = Unit {0}

-- there is a slot for each ticket
pub record TicketsAgree (past : List Event) (slots : List TicketState) : Type 0 where
  pub count : length slots ≡ length (tickets past)
  pub each : (t : ℕ) (s : TicketState) → slice_get slots t ≡ Some s → Fits past t s

pub record IsMatched (h : Inside) : Type 0 where
  pub agree : TicketsAgree h.kernel.past h.ledger.slots
  pub room : deque_len h.steps ≤ h.kernel.spare
  pub errnos : All HasErrno h.steps.items
