use Rattle.std.proofs.Common.{◌∙◌, ap}
use Rattle.usb_device_host.specs.HostCalls.{host_discarded}
use Rattle.usb_device_host.proofs.BusLemmas.{state-discarded}
use Rattle.usb_device_host.proofs.host.HostBus.discard.Goals as goal

pub returns-clause-state : goal.returns-clause-state
returns-clause-state c = state-discarded c.args.self.now c.discard_ticket.new.self c.args.p.now (c.discard_ticket.ensures.discarded ∙ ap (host_discarded c.args.self.now) c.ticket.ensures.ticket)
