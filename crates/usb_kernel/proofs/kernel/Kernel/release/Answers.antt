use Rattle.std.proofs.Common.{reverse}
use Rattle.usb_kernel.proofs.Gone.{gone-released}
use Rattle.usb_kernel.proofs.Kept.{kept-devices}
use Rattle.usb_kernel.proofs.kernel.Kernel.release.Goals as goal

pub invariant_of-self : goal.invariant_of-self
invariant_of-self c = kept-devices c.self.inside c.release_interface.new.devices c.self.invariant (rw c.release_interface.ensures.devices (gone-released (reverse c.self.inside.journal.items) c.self.inside.devices.items c.args.device c.args.interface c.self.invariant.gone))
