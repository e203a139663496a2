use Rattle.std.proofs.Common.{◌∙◌, ap}
use Rattle.usb_device_endpoint.specs.BusState.{BusState}
use Rattle.usb_device_ledger.specs.declared.ends.TicketEnd.TheVariants.{Taken}
use Rattle.usb_device_host.specs.HostState.{HostState}
use Rattle.usb_device_host.specs.HostBus.{bus_of}
use Rattle.usb_device_host.specs.HostBusFacts.{bus_of-ended}
use Rattle.usb_device_host.specs.HostCalls.{host_left}
use Rattle.usb_device_host.specs.TicketEnds.{host_taken}
use Rattle.usb_device_host.proofs.host.Host.take_control.Goals as goal

pub leave_endpoint-requires : goal.leave_endpoint-requires
leave_endpoint-requires c =
    let same = ap bus_of c.end_ticket-ended.ensures.ended ∙ bus_of-ended c.args.self.now c.args.ticket Taken in
    record { key = ap (λ (b : BusState). b.keys c.args.key) same ∙ c.requires.key }

pub returns-clause-host : goal.returns-clause-host
unfolding host_taken
returns-clause-host c = c.leave_endpoint.ensures.left ∙ ap (λ (h : HostState). host_left h c.args.key) c.end_ticket-ended.ensures.ended
