use Rattle.std.proofs.Common.{◌≡◌, ◌∙◌, ap}
use Rattle.std.specs.Option.{option_copied}
use Rattle.usb_script_words.specs.EndpointKinds.{transfer_type_of, direction_of}
use Rattle.usb_device_endpoint.specs.EndpointState.{EndpointState}
use Rattle.usb_session_calls.specs.Names.{set_name}
use Rattle.usb_session_calls.specs.SessionState.{SessionState}
use Rattle.usb_device_host.specs.EndpointOpens.{host_asked}
use Rattle.usb_session.specs.SessionFacts.{made_of}
use Rattle.usb_session_calls.proofs.NameLemmas.{found_at, free_at}
use Rattle.usb_session_calls.proofs.Answering.{answers, answers-same}
use Rattle.usb_session_calls.proofs.EndpointOpened.{stands-owned, endpoint-sound, maximum-small, endpoint-gives, endpoint-refused, endpoint-none, endpoint-used, asked-sound, asked-spare, opened-spare}
use Rattle.usb_kernel.proofs.Extends.{extends-same}
use Rattle.usb_session.proofs.Later.{later-past, asked-past, opened-past}
use Rattle.usb_session.proofs.session.Session.endpoint.Goals as goal

pub returns-in_default-clause-answered : goal.returns-in_default-clause-answered
returns-in_default-clause-answered c =
    answers-same _ _ _ c.self.view_is c.write_condition.ensures.text
    (λ state r. endpoint-none (made_of c.self.inside) state c.args.name c.args.interface c.args.address (transfer_type_of c.args.kind) (direction_of c.args.kind) (found_at _ _ _ _ _ _ c.deref.ensures.value c.number.ensures.value c.open_at.ensures.value (ap option_copied c.in_default.is)) r)

pub returns-then-not-is_free-clause-answered : goal.returns-then-not-is_free-clause-answered
returns-then-not-is_free-clause-answered c =
    let stands = c.self.invariant.interfaces_stand c.args.interface c.in-Some.interface.now (found_at _ _ _ _ _ _ c.deref.ensures.value c.number.ensures.value c.open_at.ensures.value (ap option_copied c.in-Some.is)) in
    answers-same _ _ _ c.self.view_is c.write_condition-then-not-is_free.ensures.text
    (λ state r. endpoint-used (made_of c.self.inside) state c.args.name c.args.interface c.args.address (transfer_type_of c.args.kind) (direction_of c.args.kind) c.in-Some.interface.now stands.claim (found_at _ _ _ _ _ _ c.deref.ensures.value c.number.ensures.value c.open_at.ensures.value (ap option_copied c.in-Some.is)) stands.at (free_at _ _ _ _ _ _ c.deref-2.ensures.value c.number-2.ensures.value c.is_free.ensures.free c.if-not-is_free.true) r)

pub invariant_of-self : goal.invariant_of-self
invariant_of-self c =
    let opens = c.in-Ok.ensures.opens in
    let after : c.put_at.new.names.items ≡ set_name c.self.inside.endpoints.items c.args.name c.in-Ok.endpoint = rw (← c.number-in-Ok.ensures.value) c.put_at.ensures.after in
    endpoint-sound (made_of c.self.inside) c.open_any.new.host c.put_at.new.names.items c.args.name c.in-Some.interface.now.key c.args.address c.in-Ok.endpoint opens.interface c.self.invariant opens.ok
    (ap (λ (x : EndpointState). x.key) opens.endpoint)
    (maximum-small (host_asked c.self.inside.host opens.interface.opened) c.in-Some.interface.now.key opens.interface c.args.address (transfer_type_of c.args.kind) (direction_of c.args.kind) c.in-Ok.endpoint.maximum opens.tried)
    c.in-Ok.ensures.stands c.in-Ok.ensures.others
    (free_at _ _ _ _ _ _ c.deref-2.ensures.value c.number-2.ensures.value c.is_free.ensures.free c.if-not-is_free.false)
    after
    (stands-owned c.self.inside.host c.in-Some.interface.now (c.self.invariant.interfaces_stand c.args.interface c.in-Some.interface.now (found_at _ _ _ _ _ _ c.deref.ensures.value c.number.ensures.value c.open_at.ensures.value (ap option_copied c.in-Some.is))))

pub returns-in-Ok-clause-answered : goal.returns-in-Ok-clause-answered
returns-in-Ok-clause-answered c =
    let opens = c.in-Ok.ensures.opens in
    let after : c.put_at.new.names.items ≡ set_name c.self.inside.endpoints.items c.args.name c.in-Ok.endpoint = rw (← c.number-in-Ok.ensures.value) c.put_at.ensures.after in
    answers _ _ _ c.self.view_is c.write_ok.ensures.text
    (λ state r. endpoint-gives (made_of c.self.inside) state c.open_any.new.host c.put_at.new.names.items c.args.name c.args.interface c.args.address c.in-Ok.endpoint.maximum (transfer_type_of c.args.kind) (direction_of c.args.kind) c.in-Some.interface.now opens.interface c.in-Ok.endpoint r (found_at _ _ _ _ _ _ c.deref.ensures.value c.number.ensures.value c.open_at.ensures.value (ap option_copied c.in-Some.is)) opens.at
    (free_at _ _ _ _ _ _ c.deref-2.ensures.value c.number-2.ensures.value c.is_free.ensures.free c.if-not-is_free.false)
    opens.tried opens.endpoint opens.ok
    after)

pub returns-in-Ok-clause-spare : goal.returns-in-Ok-clause-spare
returns-in-Ok-clause-spare c =
    let opens = c.in-Ok.ensures.opens in
    opened-spare c.self.inside.host c.open_any.new.host opens.interface.opened c.in-Some.interface.now.key c.args.address opens.ok ∙ ap (λ (v : SessionState). v.host.kernel.spare) c.self.view_is

pub invariant_of-self-in-Err-Cause : goal.invariant_of-self-in-Err-Cause
invariant_of-self-in-Err-Cause c =
    let opens = c.in-Err-Cause.ensures.opens in
    asked-sound (made_of c.self.inside) c.open_any.new.host opens.interface.opened c.self.invariant opens.err

pub invariant_of-self-in-Err-Memory : goal.invariant_of-self-in-Err-Memory
invariant_of-self-in-Err-Memory c =
    let opens = c.in-Err-Memory.ensures.opens in
    asked-sound (made_of c.self.inside) c.open_any.new.host opens.interface.opened c.self.invariant opens.err

pub returns-in-Err-Cause-clause-answered : goal.returns-in-Err-Cause-clause-answered
returns-in-Err-Cause-clause-answered c =
    let opens = c.in-Err-Cause.ensures.opens in
    answers _ _ _ c.self.view_is (rw c.in-Err-Cause.error-is at c.write_error.ensures.text)
    (λ state r. endpoint-refused (made_of c.self.inside) state c.open_any.new.host c.args.name c.args.interface c.args.address (transfer_type_of c.args.kind) (direction_of c.args.kind) c.in-Err-Cause.error c.in-Some.interface.now opens.interface r (found_at _ _ _ _ _ _ c.deref.ensures.value c.number.ensures.value c.open_at.ensures.value (ap option_copied c.in-Some.is)) opens.at
    (free_at _ _ _ _ _ _ c.deref-2.ensures.value c.number-2.ensures.value c.is_free.ensures.free c.if-not-is_free.false)
    (rw c.in-Err-Cause.field-0-is at opens.tried) opens.err)

pub returns-in-Err-Cause-clause-spare : goal.returns-in-Err-Cause-clause-spare
returns-in-Err-Cause-clause-spare c =
    let opens = c.in-Err-Cause.ensures.opens in
    asked-spare c.self.inside.host c.open_any.new.host opens.interface.opened opens.err ∙ ap (λ (v : SessionState). v.host.kernel.spare) c.self.view_is

pub returns-in-Err-Memory-clause-spare : goal.returns-in-Err-Memory-clause-spare
returns-in-Err-Memory-clause-spare c =
    let opens = c.in-Err-Memory.ensures.opens in
    asked-spare c.self.inside.host c.open_any.new.host opens.interface.opened opens.err ∙ ap (λ (v : SessionState). v.host.kernel.spare) c.self.view_is

pub returns-in_default-clause-later : goal.returns-in_default-clause-later
returns-in_default-clause-later c = extends-same c.args.self.now.host.kernel.past

pub returns-then-not-is_free-clause-later : goal.returns-then-not-is_free-clause-later
returns-then-not-is_free-clause-later c = extends-same c.args.self.now.host.kernel.past

pub returns-in-Ok-clause-later : goal.returns-in-Ok-clause-later
returns-in-Ok-clause-later c =
    let opens = c.in-Ok.ensures.opens in
    later-past _ c.self.view_is (opened-past c.self.inside.host c.open_any.new.host opens.interface.opened c.in-Some.interface.now.key c.args.address opens.ok)

pub returns-in-Err-Cause-clause-later : goal.returns-in-Err-Cause-clause-later
returns-in-Err-Cause-clause-later c =
    let opens = c.in-Err-Cause.ensures.opens in
    later-past _ c.self.view_is (asked-past c.self.inside.host c.open_any.new.host opens.interface.opened opens.err)

pub returns-in-Err-Memory-clause-later : goal.returns-in-Err-Memory-clause-later
returns-in-Err-Memory-clause-later c =
    let opens = c.in-Err-Memory.ensures.opens in
    later-past _ c.self.view_is (asked-past c.self.inside.host c.open_any.new.host opens.interface.opened opens.err)
