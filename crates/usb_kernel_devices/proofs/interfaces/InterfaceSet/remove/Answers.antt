use Rattle.usb_kernel_devices.proofs.InterfaceLemmas.{remove-all}
use Rattle.usb_kernel_devices.proofs.interfaces.InterfaceSet.remove.Goals as goal

pub returns : goal.returns
returns c = record { numbers = rw (← c.self.view_is) (remove-all c.self.inside.flags c.args.number) }
