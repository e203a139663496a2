use Rattle.std.proofs.Common.{◌≡◌, sym, Some}
use Rattle.usb_desc.specs.Configurations.{alt_settings}
use Rattle.usb_desc.specs.Lookups.{has_setting}
use Rattle.usb_kernel_devices.specs.Claims.{active_configuration}
use Rattle.usb_kernel_devices.proofs.CallLemmas.{is_some-find_any}
use Rattle.usb_kernel_devices.proofs.devices.DeviceState.has_setting.Goals as goal

pub returns-in-Some : goal.returns-in-Some
returns-in-Some c =
    let found : active_configuration c.args.self.now ≡ Some c.in-Some.configuration = rw c.as_slice.ensures.bytes at (sym c.in-Some.ensures.first) in
    record {
      has = rw (found, c.is_some.ensures, c.find_alt_setting.ensures.first) (is_some-find_any (has_setting c.args.interface c.args.setting) (alt_settings c.in-Some.configuration));
    }
