use Rattle.usb_device_host.proofs.BusLemmas.{state-left}
use Rattle.usb_device_host.proofs.host.HostBus.leave.Goals as goal

pub returns-clause-state : goal.returns-clause-state
returns-clause-state c = state-left c.args.self.now c.leave_endpoint.new.self c.args.endpoint_key c.requires.key c.leave_endpoint.ensures.left
