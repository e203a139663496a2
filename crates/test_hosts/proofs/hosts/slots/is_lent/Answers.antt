use Rattle.usb_device_endpoint.proofs.Frames.{Stands-later}
use Rattle.usb_device_host.specs.HostBus.{bus_of}
use Rattle.test_hosts.proofs.hosts.slots.is_lent.Goals as goal

pub take-taken-requires : goal.take-taken-requires
take-taken-requires c =
    let first = Stands-later (bus_of c.submit-submitted.new.host) (bus_of c.turn.new.self) c.submit-submitted.new.endpoint c.submit-submitted.ensures.stands c.turn.ensures.state in
    record { stands = Stands-later (bus_of c.turn.new.self) (bus_of c.turn-2.new.self) c.submit-submitted.new.endpoint first c.turn-2.ensures.state }
