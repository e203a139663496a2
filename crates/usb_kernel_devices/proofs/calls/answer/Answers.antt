use Rattle.std.proofs.Common.{sym, refl}
use Rattle.usb_kernel_devices.specs.DeviceCalls.{call_change}
use Rattle.usb_kernel_devices.proofs.DeviceLemmas.{placed, unplaced}
use Rattle.usb_kernel_devices.proofs.CallLemmas.{call-written}
use Rattle.usb_kernel_devices.proofs.calls.answer.Goals as goal

pub returns-in_default-clause-result : goal.returns-in_default-clause-result
returns-in_default-clause-result c = rw (unplaced (call_change c.args.call) c.args.devices.now.items c.args.number (rw c.deref.ensures.value at (sym c.in_default.ensures.place))).0 refl

pub returns-clause-result : goal.returns-clause-result
returns-clause-result c =
    let place = placed (call_change c.args.call) c.args.devices.now.items c.args.number c.in-Some.at c.index_mut-device.result.now (rw c.deref.ensures.value at (sym c.in-Some.ensures.place)) c.index_mut-device.ensures.value in
    rw place.device c.answer.ensures.result

pub returns-clause-ok : goal.returns-clause-ok
returns-clause-ok c =
    call-written (call_change c.args.call) c.args.devices.now.items c.args.number c.in-Some.at c.index_mut-device.result.now c.answer.new.self c.answer.result (rw c.deref.ensures.value at (sym c.in-Some.ensures.place)) c.index_mut-device.ensures.value c.answer.ensures.ok
