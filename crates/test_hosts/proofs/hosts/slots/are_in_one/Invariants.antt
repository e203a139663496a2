use Rattle.usb_device_endpoint.specs.Handles.{Stands}
use Rattle.usb_device_host.specs.HostBus.{bus_of}
use Rattle.test_hosts.proofs.hosts.slots.are_in_one.Given as goal

abbrev pub invariant-rounds : goal.invariant-rounds
invariant-rounds l = Stands (bus_of l.host) l.endpoint
