use Rattle.std.proofs.Common.{◌∙◌, ap}
use Rattle.usb_device_host.specs.TicketEnds.{host_abandoned}
use Rattle.usb_device_host.proofs.BusLemmas.{state-abandoned}
use Rattle.usb_device_host.proofs.host.HostBus.abandon.Goals as goal

pub returns-clause-state : goal.returns-clause-state
returns-clause-state c = state-abandoned c.args.self.now c.abandon_ticket.new.self c.args.p (c.abandon_ticket.ensures.abandoned ∙ ap (host_abandoned c.args.self.now) c.spend.ensures.ticket)
