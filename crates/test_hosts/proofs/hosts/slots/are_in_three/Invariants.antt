use Rattle.usb_device_endpoint.specs.Handles.{Stands}
use Rattle.usb_device_host.specs.HostBus.{bus_of}
use Rattle.test_hosts.proofs.hosts.slots.are_in_three.Given as goal

abbrev pub invariant-submits : goal.invariant-submits
invariant-submits l = Stands (bus_of l.host) l.endpoint

abbrev pub invariant-takes : goal.invariant-takes
invariant-takes l = Stands (bus_of l.host) l.endpoint
