use Rattle.std.proofs.Common.{◌≡◌, ◌≤◌, ◌-◌, length, take}
use Rattle.usb_device_host.specs.HostBus.{bus_of}
use Rattle.usb_io.specs.Along.{WritesAlong}
use Rattle.example_messages.specs.Asking.{WritesBytes}
use Rattle.example_messages.proofs.messages.Messages.write_all.Given as goal

abbrev pub invariant-writes : goal.invariant-writes
invariant-writes l =
    record {
      within : l.done ≤ length l.request;
      written : WritesBytes (bus_of l.initial.host) (bus_of l.host) l.initial.self-inside.writer l.self-inside.writer (take l.done l.request);
      along : WritesAlong (bus_of l.initial.host) (bus_of l.host) l.fn.self.writer.endpoint l.self-inside.writer.endpoint;
      reader : l.self-inside.reader ≡ l.initial.self-inside.reader;
    }

abbrev pub decreases-writes : goal.decreases-writes
decreases-writes l = length l.request - l.done
