use Rattle.std.proofs.Common.{◌∙◌, ap}
use Rattle.std.specs.Option.{option_copied}
use Rattle.usb_session_calls.specs.SessionState.{SessionState}
use Rattle.usb_session.specs.SessionFacts.{made_of}
use Rattle.usb_session_calls.proofs.NameLemmas.{found_at}
use Rattle.usb_session_calls.proofs.Answering.{answers, answers-same}
use Rattle.usb_session_calls.proofs.InterfaceCalls.{called-sound, called-spare, interface-barred, interface-gives}
use Rattle.usb_kernel.proofs.Extends.{extends-same}
use Rattle.usb_session.proofs.Later.{later-past, interface-past}
use Rattle.usb_session.proofs.session.Session.on_interface.Goals as goal

pub returns-in_default-clause-answered : goal.returns-in_default-clause-answered
returns-in_default-clause-answered c =
    answers-same _ _ _ c.self.view_is c.write_condition.ensures.text
    (λ state r. interface-barred (made_of c.self.inside) state c.args.name c.args.call (found_at _ _ _ _ _ _ c.deref.ensures.value c.number.ensures.value c.open_at.ensures.value (ap option_copied c.in_default.is)) r)

pub invariant_of-self : goal.invariant_of-self
invariant_of-self c =
    let stands = c.self.invariant.interfaces_stand c.args.name c.in-Some.interface.now (found_at _ _ _ _ _ _ c.deref.ensures.value c.number.ensures.value c.open_at.ensures.value (ap option_copied c.in-Some.is)) in
    called-sound (made_of c.self.inside) c.call_interface.new.host c.args.call c.in-Some.interface.now stands.claim c.self.invariant stands.at (c.call_interface.ensures.host stands.claim stands.at)

pub returns-clause-answered : goal.returns-clause-answered
returns-clause-answered c =
    let here = found_at _ _ _ _ _ _ c.deref.ensures.value c.number.ensures.value c.open_at.ensures.value (ap option_copied c.in-Some.is) in
    let stands = c.self.invariant.interfaces_stand c.args.name c.in-Some.interface.now here in
    answers _ _ _ c.self.view_is (c.call_interface.ensures.text stands.claim stands.at)
    (λ state r. interface-gives (made_of c.self.inside) state c.call_interface.new.host c.args.name c.in-Some.interface.now stands.claim c.args.call here stands.at (c.call_interface.ensures.host stands.claim stands.at) r)

pub returns-clause-spare : goal.returns-clause-spare
returns-clause-spare c =
    let stands = c.self.invariant.interfaces_stand c.args.name c.in-Some.interface.now (found_at _ _ _ _ _ _ c.deref.ensures.value c.number.ensures.value c.open_at.ensures.value (ap option_copied c.in-Some.is)) in
    called-spare c.self.inside.host c.call_interface.new.host c.args.call c.in-Some.interface.now stands.claim stands.at (c.call_interface.ensures.host stands.claim stands.at)
    ∙ ap (λ (v : SessionState). v.host.kernel.spare) c.self.view_is

pub returns-in_default-clause-later : goal.returns-in_default-clause-later
returns-in_default-clause-later c = extends-same c.args.self.now.host.kernel.past

pub returns-clause-later : goal.returns-clause-later
returns-clause-later c =
    let stands = c.self.invariant.interfaces_stand c.args.name c.in-Some.interface.now (found_at _ _ _ _ _ _ c.deref.ensures.value c.number.ensures.value c.open_at.ensures.value (ap option_copied c.in-Some.is)) in
    later-past _ c.self.view_is (interface-past c.self.inside.host c.call_interface.new.host c.args.call c.in-Some.interface.now stands.claim stands.at (c.call_interface.ensures.host stands.claim stands.at))
