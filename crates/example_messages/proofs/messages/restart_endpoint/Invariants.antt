use Rattle.std.proofs.Common.{◌≡◌, length}
use Rattle.usb_device_endpoint.specs.Handles.{Stands, KeepsOthers}
use Rattle.usb_device_host.specs.HostBus.{bus_of}
use Rattle.example_messages.proofs.messages.restart_endpoint.Given as goal

abbrev pub invariant-tickets : goal.invariant-tickets
invariant-tickets g l =
    record {
      stands : Stands (bus_of l.host) l.endpoint;
      same : l.endpoint ≡ record l.initial.endpoint { pending = l.endpoint.pending };
      others : KeepsOthers (bus_of l.initial.host) (bus_of l.host) l.initial.endpoint.key;
    }

abbrev pub decreases-tickets : goal.decreases-tickets
decreases-tickets g l = length l.endpoint.pending
