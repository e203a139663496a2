use Rattle.std.proofs.Common.{◌≡◌, ◌∙◌, ap, sym, Some, None}
use Rattle.usb_device_host.specs.Handles.{handle_closed}
use Rattle.usb_device_host.specs.Owners.{is_shared}
use Rattle.usb_session_calls.specs.Names.{named, freed}
use Rattle.usb_session_calls.specs.SessionState.{SessionState}
use Rattle.usb_session.specs.SessionFacts.{made_of}
use Rattle.usb_session_calls.proofs.NameLemmas.{freed-free}
use Rattle.usb_session_calls.proofs.Answering.{answers}
use Rattle.usb_session_calls.proofs.HandleHosts.{closed-keeps, spare-beside}
use Rattle.usb_session_calls.proofs.Handled.{sound-closed}
use Rattle.usb_session.proofs.HandleCloses.{interface-sound_same}
use Rattle.usb_session_calls.proofs.InterfaceHandles.{release-none, release-gives, release-refused, sound-given_back, given_back, alone-answer, shared-answer}
use Rattle.usb_device_host.specs.HostState.{HostState}
use Rattle.usb_session.proofs.Later.{later-same, later-past, past-beside}
use Rattle.usb_session.proofs.session.Session.release.Goals as goal
use Rattle.usb_session.proofs.session.Session.release.Goals.{After-write_ok, After-write_error}

was : (c : After-write_ok) → named c.self.inside.interfaces.items c.args.name ≡ Some c.in-Some.interface
was c = rw (← c.number-number.ensures.value) (sym c.take_at.ensures.taken ∙ c.in-Some.is)

back : (c : After-write_error) → c.put_at.new.names.items ≡ c.self.inside.interfaces.items
back c =
    let releases = c.in-Err.ensures.releases in
    let answer = shared-answer c.in-Some.interface c.in-Err.interface c.in-Err.error (is_shared c.self.inside.host c.in-Some.interface.key releases.claim) releases.answer in
    given_back c.self.inside.interfaces.items c.take_at.new.names.items c.put_at.new.names.items c.number-number.result c.in-Some.interface c.in-Err.interface (sym c.take_at.ensures.taken ∙ c.in-Some.is) c.take_at.ensures.rest answer.1 c.put_at.ensures.after

pub invariant_of-self : goal.invariant_of-self
invariant_of-self c =
    interface-sound_same (made_of c.self.inside) c.take_at.new.names.items c.number-number.result c.self.invariant
    (sym c.take_at.ensures.taken ∙ c.in_default.is) c.take_at.ensures.rest

pub returns-in_default-clause-answered : goal.returns-in_default-clause-answered
returns-in_default-clause-answered c =
    let none : named c.self.inside.interfaces.items c.args.name ≡ None = rw (← c.number-number.ensures.value) (sym c.take_at.ensures.taken ∙ c.in_default.is) in
    let after : c.take_at.new.names.items ≡ freed c.self.inside.interfaces.items c.args.name = rw (← c.number-number.ensures.value) c.take_at.ensures.rest in
    answers _ _ _ c.self.view_is c.write_condition.ensures.text
    (λ state r. release-none (made_of c.self.inside) state c.take_at.new.names.items c.args.name none after r)

pub invariant_of-self-in-Ok : goal.invariant_of-self-in-Ok
invariant_of-self-in-Ok c =
    sound-closed (made_of c.self.inside) c.release.new.host c.take_at.new.names.items c.number-number.result c.in-Some.interface c.self.invariant
    (sym c.take_at.ensures.taken ∙ c.in-Some.is) c.take_at.ensures.rest c.in-Ok.ensures.releases.ok

pub put_at-requires : goal.put_at-requires
put_at-requires c = record { free = rw c.take_at.ensures.rest (freed-free c.self.inside.interfaces.items c.number-number.result c.in-Some.interface (sym c.take_at.ensures.taken ∙ c.in-Some.is)) }

pub invariant_of-self-in-Err : goal.invariant_of-self-in-Err
invariant_of-self-in-Err c = sound-given_back (made_of c.self.inside) c.release.new.host c.put_at.new.names.items c.self.invariant c.in-Err.ensures.releases.err (back c)

pub returns-in-Ok-clause-answered : goal.returns-in-Ok-clause-answered
returns-in-Ok-clause-answered c =
    let releases = c.in-Ok.ensures.releases in
    let alone = alone-answer c.in-Some.interface (is_shared c.self.inside.host c.in-Some.interface.key releases.claim) c.in-Ok.field-0 releases.answer in
    let after : c.take_at.new.names.items ≡ freed c.self.inside.interfaces.items c.args.name = rw (← c.number-number.ensures.value) c.take_at.ensures.rest in
    answers _ _ _ c.self.view_is c.write_ok.ensures.text
    (λ state r. release-gives (made_of c.self.inside) state c.release.new.host c.take_at.new.names.items c.args.name c.in-Some.interface releases.claim (was c) releases.at alone releases.ok after r)

pub returns-in-Ok-clause-spare : goal.returns-in-Ok-clause-spare
returns-in-Ok-clause-spare c =
    spare-beside c.self.inside.host c.release.new.host (handle_closed c.self.inside.host c.in-Some.interface.key) c.in-Ok.ensures.releases.ok (closed-keeps c.self.inside.host c.in-Some.interface.key)
    ∙ ap (λ (v : SessionState). v.host.kernel.spare) c.self.view_is

pub returns-in-Err-clause-answered : goal.returns-in-Err-clause-answered
returns-in-Err-clause-answered c =
    let releases = c.in-Err.ensures.releases in
    let answer = shared-answer c.in-Some.interface c.in-Err.interface c.in-Err.error (is_shared c.self.inside.host c.in-Some.interface.key releases.claim) releases.answer in
    let here : named c.self.inside.interfaces.items c.args.name ≡ Some c.in-Some.interface = rw (← c.number-number.ensures.value) (sym c.take_at.ensures.taken ∙ c.in-Some.is) in
    answers _ _ _ c.self.view_is (rw c.in-Err.error-is at c.write_error.ensures.text)
    (λ state r. release-refused (made_of c.self.inside) state c.release.new.host c.put_at.new.names.items c.args.name c.in-Some.interface releases.claim c.in-Err.error here releases.at answer.0 answer.2 releases.err (back c) r)

pub returns-in_default-clause-later : goal.returns-in_default-clause-later
returns-in_default-clause-later c = later-same c.self.view_is

pub returns-in-Ok-clause-later : goal.returns-in-Ok-clause-later
returns-in-Ok-clause-later c = later-past _ c.self.view_is (past-beside c.self.inside.host c.release.new.host _ c.in-Ok.ensures.releases.ok (closed-keeps c.self.inside.host c.in-Some.interface.key))

pub returns-in-Err-clause-later : goal.returns-in-Err-clause-later
returns-in-Err-clause-later c = later-past _ c.self.view_is (ap (λ (h : HostState). h.kernel.past) c.in-Err.ensures.releases.err)
