use Rattle.usb_device_endpoint.specs.KernelBusCalls.{bus_of}
use Rattle.usb_device_endpoint.specs.Handles.{Stands}
use Rattle.test_hosts.proofs.endpoints.halts.are_right.Given as goal

abbrev pub invariant-loop-step : goal.invariant-loop-step
invariant-loop-step l = Stands (bus_of l.bus) l.reader.endpoint
