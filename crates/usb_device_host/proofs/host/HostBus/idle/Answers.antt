use Rattle.usb_device_host.proofs.HostFrames.{uses-idled}
use Rattle.usb_device_host.proofs.host.HostBus.idle.Goals as goal

pub returns-clause-state : goal.returns-clause-state
returns-clause-state c = let l = (uses-idled c.args.self.now c.args.until).later in rw c.raise_clock.ensures.idled l
