-- What a host is to its users.
use Rattle.std.specs.Prelude.{ℕ, List, [], Option}
use Rattle.usb_kernel.specs.Value.{KernelState}
use Rattle.usb_kernel_devices.specs.declared.step.KernelStep.{KernelStep}
use Rattle.usb_device_ledger.specs.Entries.{HostTicket, ClaimedInterface, HostEndpoint}
use Rattle.usb_device_ledger.specs.declared.opened.OpenDevice.{OpenDevice}

-- the kernel; the devices that were opened, with nothing where one is held no more (usb_device_ledger:
-- Devices.antt); the interfaces that were claimed, with nothing where one has no owner any more, and
-- the endpoints that were opened, with nothing where one lives no more (Releases.antt of usb_device_host),
-- each in this order, in which the n-th, counted from 0, has the key n; what became of each ticket;
-- the steps of a line that are left; and how many slots there are for tickets without an end
pub record HostState : Type 0 where
  pub kernel : KernelState
  pub devices : List (Option OpenDevice)
  pub interfaces : List (Option ClaimedInterface)
  pub endpoints : List (Option HostEndpoint)
  pub tickets : List HostTicket
  pub steps : List KernelStep
  pub slot_count : ℕ

-- a kernel with nothing open on it
abbrev pub host_of : KernelState → HostState
host_of kernel =
    record {
      kernel = kernel;
      devices = [];
      interfaces = [];
      endpoints = [];
      tickets = [];
      steps = [];
      slot_count = 0;
    }
