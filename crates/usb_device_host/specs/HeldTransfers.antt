-- The transfer of a ticket that an endpoint holds.
use Rattle.std.specs.Prelude.{ℕ, Option}
use Rattle.std.specs.Option.{option_map}
use Rattle.usb_xfer.specs.declared.transfer.Completion.{Completion}
use Rattle.usb_xfer.specs.declared.transfer.TransferData.{TransferData}
use Rattle.usb_kernel.specs.TransferCompletions.{transfer_completion}
use Rattle.usb_kernel.specs.Holds.{Hold, held_of}
use Rattle.usb_device_host.specs.HostState.{HostState}
use Rattle.usb_device_host.specs.HostBus.{hold_at}

-- it has its completion once that has come, and else nothing
abbrev pub transfer_held : Option Completion → Hold → TransferData
transfer_held come hold = record { endpoint = hold.endpoint; kind = hold.kind; held = held_of come }

abbrev pub host_transfer : HostState → ℕ → Option TransferData
host_transfer h t =
    option_map (transfer_held (transfer_completion h.kernel.past t)) (hold_at h.tickets t)
