use Rattle.usb_kernel_devices.proofs.InterfaceLemmas.{numbers_from-none}
use Rattle.usb_kernel_devices.proofs.interfaces.InterfaceSet.new.Goals as goal

pub returns : goal.returns
returns c = record { none = numbers_from-none 0 256 }
