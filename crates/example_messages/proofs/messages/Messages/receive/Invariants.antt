use Rattle.std.proofs.Common.{◌≡◌, ◌-◌, vec_len}
use Rattle.usb_device_host.specs.HostBus.{bus_of}
use Rattle.usb_io.specs.Along.{ReadsAlong}
use Rattle.usb_io.specs.Following.{FollowsRead}
use Rattle.example_messages.proofs.messages.Messages.receive.Given as goal

abbrev pub invariant-reads : goal.invariant-reads
invariant-reads l =
    record {
      read : FollowsRead (bus_of l.initial.host) (bus_of l.host) l.initial.self.reader l.self.reader l.answer.items;
      along : ReadsAlong (bus_of l.initial.host) (bus_of l.host) l.initial.self.reader.endpoint l.self.reader.endpoint;
      writer : l.self.writer ≡ l.initial.self.writer;
    }

abbrev pub decreases-reads : goal.decreases-reads
decreases-reads l = 4097 - vec_len l.answer
