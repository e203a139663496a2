use Rattle.std.proofs.Common.{ℕ, ◌≡◌, ◌∙◌, ap, subst, sym, Ok, Err}
use Rattle.std.specs.Option.{option_copied}
use Rattle.usb_device_host.specs.HostState.{HostState}
use Rattle.usb_session_calls.specs.Names.{set_name}
use Rattle.usb_session_calls.specs.SessionState.{SessionState, IsSound}
use Rattle.usb_session.specs.SessionFacts.{made_of}
use Rattle.usb_session_calls.proofs.SoundDevices.{device-of}
use Rattle.usb_session_calls.proofs.NameLemmas.{found_at, free_at}
use Rattle.usb_session_calls.proofs.Answering.{answers, answers-same}
use Rattle.usb_session_calls.proofs.Handled.{sound-claimed, sound-refused}
use Rattle.usb_session.proofs.ClaimCode.{claim-gives, claim-refused, claim-none, claim-used, claim-spare}
use Rattle.usb_kernel.proofs.Extends.{extends-same}
use Rattle.usb_session.proofs.Later.{later-past}
use Rattle.usb_session.proofs.ClaimCode.{claim-past}
use Rattle.usb_session.proofs.session.Session.claim.Goals as goal

pub returns-in_default-clause-answered : goal.returns-in_default-clause-answered
returns-in_default-clause-answered c =
    answers-same _ _ _ c.self.view_is c.write_condition.ensures.text
    (λ state r. claim-none (made_of c.self.inside) state c.args.device c.args.number c.args.name c.args.reattach (found_at _ _ _ _ _ _ c.deref.ensures.value c.number.ensures.value c.open_at.ensures.value (ap option_copied c.in_default.is)) r)

pub returns-then-not-is_free-clause-answered : goal.returns-then-not-is_free-clause-answered
returns-then-not-is_free-clause-answered c =
    let here = found_at _ _ _ _ _ _ c.deref.ensures.value c.number.ensures.value c.open_at.ensures.value (ap option_copied c.in-Some.is) in
    let there = device-of c.self.inside.host c.in-Some.device.now (c.self.invariant.devices_stand c.args.device c.in-Some.device.now here) in
    answers-same _ _ _ c.self.view_is c.write_condition-then-not-is_free.ensures.text
    (λ state r. claim-used (made_of c.self.inside) state c.args.device c.in-Some.device.now c.args.number c.args.name c.args.reattach there.0 here there.1 (free_at _ _ _ _ _ _ c.deref-2.ensures.value c.number-2.ensures.value c.is_free.ensures.free c.if-not-is_free.true) r)

pub invariant_of-self : goal.invariant_of-self
invariant_of-self c =
    let claims = c.in-Ok.ensures.claims in
    sound-claimed (made_of c.self.inside) c.claim_of.new.host c.put_at.new.names.items c.args.name c.in-Some.device.now c.args.number c.args.reattach claims.device c.in-Ok.interface c.self.invariant claims.at claims.tried claims.host c.in-Ok.ensures.stands
    (free_at _ _ _ _ _ _ c.deref-2.ensures.value c.number-2.ensures.value c.is_free.ensures.free c.if-not-is_free.false)
    (rw (← c.number-in-Ok.ensures.value) c.put_at.ensures.after)

pub returns-in-Ok-clause-answered : goal.returns-in-Ok-clause-answered
returns-in-Ok-clause-answered c =
    let claims = c.in-Ok.ensures.claims in
    let here = found_at _ _ _ _ _ _ c.deref.ensures.value c.number.ensures.value c.open_at.ensures.value (ap option_copied c.in-Some.is) in
    let free = free_at _ _ _ _ _ _ c.deref-2.ensures.value c.number-2.ensures.value c.is_free.ensures.free c.if-not-is_free.false in
    let after : c.put_at.new.names.items ≡ set_name c.self.inside.interfaces.items c.args.name c.in-Ok.interface = rw (← c.number-in-Ok.ensures.value) c.put_at.ensures.after in
    answers _ _ _ c.self.view_is c.write_ok.ensures.text
    (λ state r. claim-gives (made_of c.self.inside) state c.claim_of.new.host c.put_at.new.names.items c.args.device c.args.name c.in-Some.device.now c.args.number c.args.reattach claims.device c.in-Ok.interface r here claims.at free claims.tried claims.number claims.host after)

pub returns-in-Ok-clause-spare : goal.returns-in-Ok-clause-spare
returns-in-Ok-clause-spare c =
    claim-spare c.self.inside.host c.claim_of.new.host c.in-Some.device.now c.args.number c.args.reattach (Ok c.in-Ok.interface) c.in-Ok.ensures.claims.host ∙ ap (λ (v : SessionState). v.host.kernel.spare) c.self.view_is

pub returns-in-Err-Cause-clause-answered : goal.returns-in-Err-Cause-clause-answered
returns-in-Err-Cause-clause-answered c =
    let claims = c.in-Err-Cause.ensures.claims in
    let here = found_at _ _ _ _ _ _ c.deref.ensures.value c.number.ensures.value c.open_at.ensures.value (ap option_copied c.in-Some.is) in
    let free = free_at _ _ _ _ _ _ c.deref-2.ensures.value c.number-2.ensures.value c.is_free.ensures.free c.if-not-is_free.false in
    answers _ _ _ c.self.view_is (rw c.in-Err-Cause.error-is at c.write_error.ensures.text)
    (λ state r. claim-refused (made_of c.self.inside) state c.claim_of.new.host c.args.device c.args.name c.in-Some.device.now c.args.number c.args.reattach claims.device c.in-Err-Cause.error r here claims.at free (rw c.in-Err-Cause.field-0-is at claims.tried) (rw c.in-Err-Cause.field-0-is at claims.host))

pub invariant_of-self-in-Err-Cause : goal.invariant_of-self-in-Err-Cause
invariant_of-self-in-Err-Cause c =
    let claims = c.in-Err-Cause.ensures.claims in
    sound-refused (made_of c.self.inside) c.claim_of.new.host c.in-Some.device.now c.args.number c.args.reattach claims.device c.in-Err-Cause.error c.self.invariant claims.at (rw c.in-Err-Cause.field-0-is at claims.tried) (rw c.in-Err-Cause.field-0-is at claims.host)

pub invariant_of-self-in-Err-Memory : goal.invariant_of-self-in-Err-Memory
invariant_of-self-in-Err-Memory c =
    let same = rw c.in-Err-Memory.field-0-is at c.in-Err-Memory.ensures.claims.host in
    subst (λ (h : HostState). IsSound (record (made_of c.self.inside) { host = h })) (sym same) c.self.invariant

pub returns-in-Err-Cause-clause-spare : goal.returns-in-Err-Cause-clause-spare
returns-in-Err-Cause-clause-spare c =
    claim-spare {A = ℕ} c.self.inside.host c.claim_of.new.host c.in-Some.device.now c.args.number c.args.reattach (Err c.in-Err-Cause.field-0) c.in-Err-Cause.ensures.claims.host ∙ ap (λ (v : SessionState). v.host.kernel.spare) c.self.view_is

pub returns-in-Err-Memory-clause-spare : goal.returns-in-Err-Memory-clause-spare
returns-in-Err-Memory-clause-spare c =
    claim-spare {A = ℕ} c.self.inside.host c.claim_of.new.host c.in-Some.device.now c.args.number c.args.reattach (Err c.in-Err-Memory.field-0) c.in-Err-Memory.ensures.claims.host ∙ ap (λ (v : SessionState). v.host.kernel.spare) c.self.view_is

pub returns-in_default-clause-later : goal.returns-in_default-clause-later
returns-in_default-clause-later c = extends-same c.args.self.now.host.kernel.past

pub returns-then-not-is_free-clause-later : goal.returns-then-not-is_free-clause-later
returns-then-not-is_free-clause-later c = extends-same c.args.self.now.host.kernel.past

pub returns-in-Ok-clause-later : goal.returns-in-Ok-clause-later
returns-in-Ok-clause-later c = later-past _ c.self.view_is (claim-past c.self.inside.host c.claim_of.new.host c.in-Some.device.now c.args.number c.args.reattach (Ok c.in-Ok.interface) c.in-Ok.ensures.claims.host)

pub returns-in-Err-Cause-clause-later : goal.returns-in-Err-Cause-clause-later
returns-in-Err-Cause-clause-later c = later-past _ c.self.view_is (claim-past {A = ℕ} c.self.inside.host c.claim_of.new.host c.in-Some.device.now c.args.number c.args.reattach (Err c.in-Err-Cause.field-0) c.in-Err-Cause.ensures.claims.host)

pub returns-in-Err-Memory-clause-later : goal.returns-in-Err-Memory-clause-later
returns-in-Err-Memory-clause-later c = later-past _ c.self.view_is (claim-past {A = ℕ} c.self.inside.host c.claim_of.new.host c.in-Some.device.now c.args.number c.args.reattach (Err c.in-Err-Memory.field-0) c.in-Err-Memory.ensures.claims.host)
