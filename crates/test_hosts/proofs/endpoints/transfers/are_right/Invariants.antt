use Rattle.usb_device_endpoint.specs.KernelBusCalls.{bus_of}
use Rattle.usb_device_endpoint.specs.Handles.{Stands}
use Rattle.test_hosts.proofs.endpoints.transfers.are_right.Given as goal

abbrev pub invariant-loop-len : goal.invariant-loop-len
invariant-loop-len l = Stands (bus_of l.bus) l.endpoint
