use Rattle.std.proofs.Common.{◌≤◌, ◌+◌, ap, subst}
use Rattle.std.specs.Option.{option_copied}
use Rattle.usb_session_calls.specs.OpenAt.{device_with}
use Rattle.usb_session_calls.specs.DeviceCalls.{device_places}
use Rattle.usb_session_calls.specs.SessionState.{SessionState}
use Rattle.usb_session.specs.SessionFacts.{made_of}
use Rattle.usb_session_calls.proofs.SoundDevices.{device-of}
use Rattle.usb_session_calls.proofs.NameLemmas.{found_at}
use Rattle.usb_session_calls.proofs.Answering.{answers, answers-same}
use Rattle.usb_session_calls.proofs.DeviceCalls.{called-sound, called-places, device-barred, device-gives}
use Rattle.usb_kernel.proofs.Extends.{extends-same}
use Rattle.usb_session.proofs.Later.{device-later}
use Rattle.usb_session.proofs.session.Session.on_device.Goals as goal

pub returns-in_default-clause-answered : goal.returns-in_default-clause-answered
returns-in_default-clause-answered c =
    answers-same _ _ _ c.self.view_is c.write_condition.ensures.text
    (λ state r. device-barred (made_of c.self.inside) state c.args.name c.args.call (found_at _ _ _ _ _ _ c.deref.ensures.value c.number.ensures.value c.open_at.ensures.value (ap option_copied c.in_default.is)) r)

pub invariant_of-self : goal.invariant_of-self
invariant_of-self c =
    let named = found_at _ _ _ _ _ _ c.deref.ensures.value c.number.ensures.value c.open_at.ensures.value (ap option_copied c.in-Some.is) in
    let there = device-of c.self.inside.host c.in-Some.device.now (c.self.invariant.devices_stand c.args.name c.in-Some.device.now named) in
    called-sound (made_of c.self.inside) c.call_device.new.host c.args.call (device_with c.in-Some.device.now there.0) c.self.invariant (c.call_device.ensures.host there.0 there.1)

pub returns-clause-answered : goal.returns-clause-answered
returns-clause-answered c =
    let named = found_at _ _ _ _ _ _ c.deref.ensures.value c.number.ensures.value c.open_at.ensures.value (ap option_copied c.in-Some.is) in
    let there = device-of c.self.inside.host c.in-Some.device.now (c.self.invariant.devices_stand c.args.name c.in-Some.device.now named) in
    answers _ _ _ c.self.view_is (c.call_device.ensures.text there.0 there.1)
    (λ state r. device-gives (made_of c.self.inside) state c.call_device.new.host c.args.name c.in-Some.device.now there.0 c.args.call named there.1 (c.call_device.ensures.host there.0 there.1) r)

pub returns-clause-spare : goal.returns-clause-spare
returns-clause-spare c =
    let named = found_at _ _ _ _ _ _ c.deref.ensures.value c.number.ensures.value c.open_at.ensures.value (ap option_copied c.in-Some.is) in
    let there = device-of c.self.inside.host c.in-Some.device.now (c.self.invariant.devices_stand c.args.name c.in-Some.device.now named) in
    subst (λ (v : SessionState). v.host.kernel.spare ≤ c.call_device.new.host.kernel.spare + device_places c.args.call) c.self.view_is
    (called-places c.self.inside.host c.call_device.new.host c.args.call (device_with c.in-Some.device.now there.0) (c.call_device.ensures.host there.0 there.1))

pub returns-in_default-clause-later : goal.returns-in_default-clause-later
returns-in_default-clause-later c = extends-same c.args.self.now.host.kernel.past

pub returns-clause-later : goal.returns-clause-later
returns-clause-later c =
    let named = found_at _ _ _ _ _ _ c.deref.ensures.value c.number.ensures.value c.open_at.ensures.value (ap option_copied c.in-Some.is) in
    let there = device-of c.self.inside.host c.in-Some.device.now (c.self.invariant.devices_stand c.args.name c.in-Some.device.now named) in
    device-later c.call_device.new.host c.args.call (device_with c.in-Some.device.now there.0) c.self.view_is (c.call_device.ensures.host there.0 there.1)
