use Rattle.usb_device_host.specs.HostBus.{bus_of}
use Rattle.example_messages.specs.Endpoints.{IsOpen}
use Rattle.example_messages.proofs.tests.answers.Given as goal

abbrev pub invariant-loop-turn : goal.invariant-loop-turn
invariant-loop-turn l = IsOpen (bus_of l.host) l.messages
