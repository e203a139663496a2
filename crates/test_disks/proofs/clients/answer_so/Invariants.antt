use Rattle.usb_device_host.specs.HostBus.{bus_of}
use Rattle.usb_bot.specs.Clients.{StandBoth}
use Rattle.test_disks.proofs.clients.answer_so.Given as goal

abbrev pub invariant-calls : goal.invariant-calls
invariant-calls l = record { stand : StandBoth (bus_of l.host) l.client }
