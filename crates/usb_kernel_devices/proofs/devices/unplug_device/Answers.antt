use Rattle.std.proofs.Common.{sym, refl, ◌∙◌}
use Rattle.usb_kernel_devices.specs.Devices.{unplugged}
use Rattle.usb_kernel_devices.proofs.DeviceLemmas.{placed, unplaced, is_some-if_plugged}
use Rattle.usb_kernel_devices.proofs.devices.unplug_device.Goals as goal

pub returns-in_default-clause-was : goal.returns-in_default-clause-was
returns-in_default-clause-was c = rw (unplaced unplugged c.args.devices.now.items c.args.number (rw c.deref.ensures.value at (sym c.in_default.ensures.place))).0 refl

pub returns-in_default-clause-devices : goal.returns-in_default-clause-devices
returns-in_default-clause-devices c = sym (unplaced unplugged c.args.devices.now.items c.args.number (rw c.deref.ensures.value at (sym c.in_default.ensures.place))).1

pub returns-clause-was : goal.returns-clause-was
returns-clause-was c =
    let place = placed unplugged c.args.devices.now.items c.args.number c.in-Some.at c.index_mut-device.result.now (rw c.deref.ensures.value at (sym c.in-Some.ensures.place)) c.index_mut-device.ensures.value in
    rw place.device (c.unplug.ensures.was ∙ sym (is_some-if_plugged c.index_mut-device.result.now))

pub returns-clause-devices : goal.returns-clause-devices
returns-clause-devices c =
    let place = placed unplugged c.args.devices.now.items c.args.number c.in-Some.at c.index_mut-device.result.now (rw c.deref.ensures.value at (sym c.in-Some.ensures.place)) c.index_mut-device.ensures.value in
    rw c.unplug.ensures.device place.changed
