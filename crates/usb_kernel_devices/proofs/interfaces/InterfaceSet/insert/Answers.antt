use Rattle.std.proofs.Common.{arith}
use Rattle.usb_kernel_devices.proofs.InterfaceLemmas.{insert-all}
use Rattle.usb_kernel_devices.proofs.interfaces.InterfaceSet.insert.Goals as goal

pub returns : goal.returns
returns c = record { numbers = rw (← c.self.view_is) (insert-all c.self.inside.flags c.args.number (omega (arith, c.self.told, c.ranges.number.fits))) }
