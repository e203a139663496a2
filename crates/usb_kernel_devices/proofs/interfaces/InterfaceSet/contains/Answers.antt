use Rattle.std.proofs.Common.{sym}
use Rattle.usb_kernel_devices.proofs.InterfaceLemmas.{contains-all}
use Rattle.usb_kernel_devices.proofs.interfaces.InterfaceSet.contains.Goals as goal

pub returns : goal.returns
returns c = record { contains = sym (rw (← c.self.view_is) (contains-all c.self.inside.flags c.args.number)) }
