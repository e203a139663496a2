use Rattle.usb_desc.specs.Configurations.{configurations}
use Rattle.usb_desc.specs.Lookups.{has_value}
use Rattle.usb_kernel_devices.proofs.CallLemmas.{is_some-find_any}
use Rattle.usb_kernel_devices.proofs.devices.DeviceState.has_configuration.Goals as goal

pub returns : goal.returns
returns c = record {
  has = rw (c.is_some.ensures, c.find_configuration.ensures.first, c.as_slice.ensures.bytes) (is_some-find_any (has_value c.args.value) (configurations c.args.self.now.bytes));
}
