use Rattle.std.proofs.Common.{◌≡◌, ◌∙◌, ap}
use Rattle.std.specs.Option.{option_copied}
use Rattle.usb_device_host.specs.Handles.{handle_cloned}
use Rattle.usb_session_calls.specs.Names.{set_name}
use Rattle.usb_session_calls.specs.SessionState.{SessionState}
use Rattle.usb_session.specs.SessionFacts.{made_of}
use Rattle.usb_session_calls.proofs.NameLemmas.{found_at, free_at}
use Rattle.usb_session_calls.proofs.Answering.{answers, answers-same}
use Rattle.usb_session_calls.proofs.HandleHosts.{cloned-keeps, spare-beside}
use Rattle.usb_session_calls.proofs.Handled.{sound-cloned}
use Rattle.usb_session_calls.proofs.InterfaceHandles.{clone_interface-none, clone_interface-used, clone_interface-gives}
use Rattle.usb_kernel.proofs.Extends.{extends-same}
use Rattle.usb_session.proofs.Later.{later-past, past-beside}
use Rattle.usb_device_host.specs.HostState.{HostState}
use Rattle.usb_session.proofs.session.Session.clone_interface.Goals as goal
use Rattle.usb_session.proofs.session.Session.clone_interface.Goals.{After-write_ok}

put : (c : After-write_ok) → c.put_at.new.names.items ≡ set_name c.self.inside.interfaces.items c.args.name c.in-Some.interface.now
put c = rw (← c.number-3.ensures.value, ← c.in_ok-clone.ensures.handle) c.put_at.ensures.after

pub returns-in_default-clause-answered : goal.returns-in_default-clause-answered
returns-in_default-clause-answered c =
    answers-same _ _ _ c.self.view_is c.write_condition.ensures.text
    (λ state r. clone_interface-none (made_of c.self.inside) state c.args.name c.args.interface (found_at _ _ _ _ _ _ c.deref.ensures.value c.number.ensures.value c.open_at.ensures.value (ap option_copied c.in_default.is)) r)

pub returns-then-not-is_free-clause-answered : goal.returns-then-not-is_free-clause-answered
returns-then-not-is_free-clause-answered c =
    answers-same _ _ _ c.self.view_is c.write_condition-then-not-is_free.ensures.text
    (λ state r. clone_interface-used (made_of c.self.inside) state c.args.name c.args.interface c.in-Some.interface.now
    (found_at _ _ _ _ _ _ c.deref.ensures.value c.number.ensures.value c.open_at.ensures.value (ap option_copied c.in-Some.is))
    (free_at _ _ _ _ _ _ c.deref-2.ensures.value c.number-2.ensures.value c.is_free.ensures.free c.if-not-is_free.true) r)

pub invariant_of-self-2 : goal.invariant_of-self-2
invariant_of-self-2 c =
    sound-cloned (made_of c.self.inside) c.clone_on.new.host c.put_at.new.names.items c.args.name c.args.interface c.in-Some.interface.now c.self.invariant
    (found_at _ _ _ _ _ _ c.deref.ensures.value c.number.ensures.value c.open_at.ensures.value (ap option_copied c.in-Some.is))
    (free_at _ _ _ _ _ _ c.deref-2.ensures.value c.number-2.ensures.value c.is_free.ensures.free c.if-not-is_free.false) (put c) c.in_ok-clone.ensures.ok

pub returns-clause-answered : goal.returns-clause-answered
returns-clause-answered c =
    answers _ _ _ c.self.view_is c.write_ok.ensures.text
    (λ state r. clone_interface-gives (made_of c.self.inside) state c.clone_on.new.host c.put_at.new.names.items c.args.name c.args.interface c.in-Some.interface.now
    (found_at _ _ _ _ _ _ c.deref.ensures.value c.number.ensures.value c.open_at.ensures.value (ap option_copied c.in-Some.is))
    (free_at _ _ _ _ _ _ c.deref-2.ensures.value c.number-2.ensures.value c.is_free.ensures.free c.if-not-is_free.false) c.in_ok-clone.ensures.ok (put c) r)

pub returns-clause-spare : goal.returns-clause-spare
returns-clause-spare c =
    spare-beside c.self.inside.host c.clone_on.new.host (handle_cloned c.self.inside.host c.in-Some.interface.now.key) c.in_ok-clone.ensures.ok (cloned-keeps c.self.inside.host c.in-Some.interface.now.key)
    ∙ ap (λ (v : SessionState). v.host.kernel.spare) c.self.view_is

pub returns-in_default-clause-later : goal.returns-in_default-clause-later
returns-in_default-clause-later c = extends-same c.args.self.now.host.kernel.past

pub returns-then-not-is_free-clause-later : goal.returns-then-not-is_free-clause-later
returns-then-not-is_free-clause-later c = extends-same c.args.self.now.host.kernel.past

pub returns-clause-later : goal.returns-clause-later
returns-clause-later c = later-past _ c.self.view_is (past-beside c.self.inside.host c.clone_on.new.host _ c.in_ok-clone.ensures.ok (cloned-keeps c.self.inside.host c.in-Some.interface.now.key))

pub returns-in_err-clone-clause-later : goal.returns-in_err-clone-clause-later
returns-in_err-clone-clause-later c = later-past _ c.self.view_is (ap (λ (h : HostState). h.kernel.past) c.in_err-clone.ensures.err)
