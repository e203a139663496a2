use Rattle.std.proofs.Common.{◌∙◌, ap}
use Rattle.usb_device_ledger.specs.declared.ends.TicketEnd.TheVariants.{Taken}
use Rattle.usb_device_host.specs.TicketEnds.{host_ended, host_taken}
use Rattle.usb_device_host.proofs.host.HostSlotsTransferData.into_idle.Goals as goal

pub returns-clause-rest : goal.returns-clause-rest
unfolding host_taken
returns-clause-rest c = c.end_ticket-transfer.ensures.ended ∙ ap (λ t. host_ended c.args.self.now t Taken) c.spend.ensures.ticket
