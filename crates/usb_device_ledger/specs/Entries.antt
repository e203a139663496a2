-- Claimed interfaces, endpoints and tickets, as the users of a host know them.
use Rattle.std.specs.Prelude.{ℕ, Bool, true, false, Option, None}
-- (`Hold` is what an endpoint holds of a ticket)
pub use Rattle.usb_kernel.specs.Holds.{Hold}
use Rattle.usb_device_ledger.specs.declared.ends.TicketEnd.{TicketEnd}

-- what became of a ticket: an endpoint holds it; or the endpoint of this key gave it up before it
-- was reaped; or it has its end
pub data HostTicket : Type 0 where
  HeldBy : (hold : Hold) → HostTicket
  Abandoned : (key : ℕ) → HostTicket
  Ended : (end : TicketEnd) → HostTicket

-- whether a ticket has no end
abbrev pub is_unended : HostTicket → Bool
is_unended (HeldBy hold) = true
is_unended (Abandoned key) = true
is_unended (Ended end) = false

-- a claimed interface: the key of its open device, the device's number at the kernel, the
-- interface's number, its current alternate setting, whether its driver is to be attached again
-- when the claim ends, and how many handles of it are open
pub record ClaimedInterface : Type 0 where
  pub opened : ℕ
  pub device : ℕ
  pub number : ℕ
  pub setting : ℕ
  pub reattach : Bool
  pub handles : ℕ

-- a fresh claim has the setting 0 and one open handle
abbrev pub fresh_interface : ℕ → ℕ → ℕ → Bool → ClaimedInterface
fresh_interface opened device number reattach =
    record {
      opened = opened;
      device = device;
      number = number;
      setting = 0;
      reattach = reattach;
      handles = 1;
    }

-- an endpoint: the key of its interface, its address, and whether its handle is open. The
-- endpoint of a control transfer is one of the device, and has no interface (USB 2.0, 5.5)
pub record HostEndpoint : Type 0 where
  pub interface : Option ℕ
  pub address : ℕ
  pub is_open : Bool

-- a fresh control endpoint
abbrev pub control_endpoint : ℕ → HostEndpoint
control_endpoint address = record { interface = None; address = address; is_open = true }
