use Rattle.std.proofs.Common.{sym, refl}
use Rattle.usb_kernel_devices.specs.Claims.{without_claim}
use Rattle.usb_kernel_devices.proofs.DeviceLemmas.{placed, unplaced}
use Rattle.usb_kernel_devices.proofs.devices.release_interface.Goals as goal

pub returns-in_default-clause-result : goal.returns-in_default-clause-result
returns-in_default-clause-result c = rw (unplaced (without_claim c.args.interface) c.args.devices.now.items c.args.number (rw c.deref.ensures.value at (sym c.in_default.ensures.place))).0 refl

pub returns-in_default-clause-devices : goal.returns-in_default-clause-devices
returns-in_default-clause-devices c = sym (unplaced (without_claim c.args.interface) c.args.devices.now.items c.args.number (rw c.deref.ensures.value at (sym c.in_default.ensures.place))).1

pub returns-clause-result : goal.returns-clause-result
returns-clause-result c =
    let place = placed (without_claim c.args.interface) c.args.devices.now.items c.args.number c.in-Some.at c.index_mut-device.result.now (rw c.deref.ensures.value at (sym c.in-Some.ensures.place)) c.index_mut-device.ensures.value in
    rw place.device c.release.ensures.result

pub returns-clause-devices : goal.returns-clause-devices
returns-clause-devices c =
    let place = placed (without_claim c.args.interface) c.args.devices.now.items c.args.number c.in-Some.at c.index_mut-device.result.now (rw c.deref.ensures.value at (sym c.in-Some.ensures.place)) c.index_mut-device.ensures.value in
    rw c.release.ensures.device place.changed
