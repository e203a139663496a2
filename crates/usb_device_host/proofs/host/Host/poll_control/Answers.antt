use Rattle.std.proofs.Common.{ap, ◌∙◌}
use Rattle.usb_device_endpoint.specs.BusState.{BusState}
use Rattle.usb_device_host.specs.HostBus.{bus_of}
use Rattle.usb_device_host.proofs.CallFrames.{bus-taken}
use Rattle.usb_device_host.proofs.host.Host.poll_control.Goals as goal

pub leave_endpoint-requires : goal.leave_endpoint-requires
leave_endpoint-requires c =
    let took = c.in_ok-taken.ensures.taken in
    let same = ap bus_of took.rest ∙ bus-taken c.args.self.now took.ticket in
    record { key = ap (λ (b : BusState). b.keys c.args.key) same ∙ c.requires.key }
