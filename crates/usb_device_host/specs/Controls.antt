-- How a control transfer starts at a host (USB 2.0, section 9.3).
use Rattle.std.specs.Prelude.{ℕ, [], ◌∷◌, ◌++◌, length, Some}
use Rattle.usb_xfer.specs.declared.transfer.TransferData.{TransferData}
use Rattle.usb_xfer.specs.Transfers.{setup_held, data_held}
use Rattle.usb_kernel.specs.declared.submission.Submission.{Submission}
use Rattle.usb_kernel.specs.Submits.{kernel_submitted}
use Rattle.usb_kernel.specs.Timers.{deadline_after}
use Rattle.usb_device_ledger.specs.Entries.{HeldBy, control_endpoint}
use Rattle.usb_device_ledger.specs.Slots.{slots_with}
use Rattle.usb_device_host.specs.HostState.{HostState}

-- what is handed in of a control transfer
abbrev pub control_submission : HostState → ℕ → TransferData → ℕ → Submission
control_submission h device request timeout =
    record {
      device = device;
      endpoint = request.endpoint;
      kind = request.kind;
      maximum = (data_held request.held).requested;
      deadline = Some (deadline_after h.kernel.clock timeout);
      setup = setup_held request.held;
      buffer = data_held request.held;
    }

-- it was handed in. It has a control endpoint of its own, of the next key, which holds its ticket
unfoldable pub host_started : HostState → Submission → HostState
host_started h s =
    record h {
      kernel = kernel_submitted h.kernel s;
      endpoints = h.endpoints ++ Some (control_endpoint s.endpoint) ∷ [];
      tickets =
          h.tickets
          ++ HeldBy (record { key = length h.endpoints; endpoint = s.endpoint; kind = s.kind }) ∷ [];
      slot_count = slots_with h.tickets h.slot_count;
    }

-- a request to a device was handed in
abbrev pub request_started : HostState → ℕ → TransferData → ℕ → HostState
request_started h device request timeout =
    host_started h (control_submission h device request timeout)
