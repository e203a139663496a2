use Rattle.std.proofs.Common.{ℕ, ◌≡◌, ◌∙◌, ap, sym, subst, Ok, Err}
use Rattle.usb_device_host.specs.HostState.{HostState}
use Rattle.usb_session_calls.specs.Names.{set_name}
use Rattle.usb_session_calls.specs.SessionState.{SessionState, IsSound}
use Rattle.usb_session.specs.SessionFacts.{made_of}
use Rattle.usb_session_calls.proofs.NameLemmas.{free_at}
use Rattle.usb_session_calls.proofs.Answering.{answers, answers-same}
use Rattle.usb_session.proofs.OpenCode.{open-sound, open-left, open-gives, open-refused, open-barred, open-spare}
use Rattle.usb_kernel.proofs.Extends.{extends-same}
use Rattle.usb_session.proofs.Later.{later-past}
use Rattle.usb_session.proofs.OpenCode.{open-past}
use Rattle.usb_session.proofs.session.Session.open.Goals as goal

pub returns-then-not-is_free-clause-answered : goal.returns-then-not-is_free-clause-answered
returns-then-not-is_free-clause-answered c =
    answers-same _ _ _ c.self.view_is c.write_condition.ensures.text
    (λ state r. open-barred (made_of c.self.inside) state c.args.name c.args.bus c.args.address r (free_at _ _ _ _ _ _ c.deref.ensures.value c.number.ensures.value c.is_free.ensures.free c.if-not-is_free.true))

pub invariant_of-self : goal.invariant_of-self
invariant_of-self c =
    open-sound (made_of c.self.inside) c.open_at.new.host c.put_at.new.names.items c.args.name c.in-Ok.device c.args.bus c.args.address c.self.invariant c.in-Ok.ensures.tried c.in-Ok.ensures.host c.in-Ok.ensures.stands
    (free_at _ _ _ _ _ _ c.deref.ensures.value c.number.ensures.value c.is_free.ensures.free c.if-not-is_free.false)
    (rw (← c.number-in-Ok.ensures.value) c.put_at.ensures.after)

pub returns-in-Ok-clause-answered : goal.returns-in-Ok-clause-answered
returns-in-Ok-clause-answered c =
    let after : c.put_at.new.names.items ≡ set_name c.self.inside.devices.items c.args.name c.in-Ok.device = rw (← c.number-in-Ok.ensures.value) c.put_at.ensures.after in
    answers _ _ _ c.self.view_is c.write_ok.ensures.text
    (λ state r. open-gives (made_of c.self.inside) state c.open_at.new.host c.put_at.new.names.items c.args.name c.in-Ok.device c.args.bus c.args.address r (free_at _ _ _ _ _ _ c.deref.ensures.value c.number.ensures.value c.is_free.ensures.free c.if-not-is_free.false) c.in-Ok.ensures.tried c.in-Ok.ensures.host after)

pub returns-in-Ok-clause-spare : goal.returns-in-Ok-clause-spare
returns-in-Ok-clause-spare c =
    open-spare c.self.inside.host c.open_at.new.host c.args.bus c.args.address (Ok c.in-Ok.device) c.in-Ok.ensures.host ∙ ap (λ (v : SessionState). v.host.kernel.spare) c.self.view_is

pub returns-in-Err-Cause-clause-answered : goal.returns-in-Err-Cause-clause-answered
returns-in-Err-Cause-clause-answered c =
    answers _ _ _ c.self.view_is (rw c.in-Err-Cause.error-is at c.write_error.ensures.text)
    (λ state r. open-refused (made_of c.self.inside) state c.open_at.new.host c.args.name c.args.bus c.args.address c.in-Err-Cause.error r (free_at _ _ _ _ _ _ c.deref.ensures.value c.number.ensures.value c.is_free.ensures.free c.if-not-is_free.false) (rw c.in-Err-Cause.field-0-is at c.in-Err-Cause.ensures.tried) (rw c.in-Err-Cause.field-0-is at c.in-Err-Cause.ensures.host))

pub invariant_of-self-in-Err-Cause : goal.invariant_of-self-in-Err-Cause
invariant_of-self-in-Err-Cause c = open-left (made_of c.self.inside) c.open_at.new.host c.args.bus c.args.address c.in-Err-Cause.error c.self.invariant (rw c.in-Err-Cause.field-0-is at c.in-Err-Cause.ensures.tried) (rw c.in-Err-Cause.field-0-is at c.in-Err-Cause.ensures.host)

pub invariant_of-self-in-Err-Memory : goal.invariant_of-self-in-Err-Memory
invariant_of-self-in-Err-Memory c =
    let same = rw c.in-Err-Memory.field-0-is at c.in-Err-Memory.ensures.host in
    subst (λ (h : HostState). IsSound (record (made_of c.self.inside) { host = h })) (sym same) c.self.invariant

pub returns-in-Err-Cause-clause-spare : goal.returns-in-Err-Cause-clause-spare
returns-in-Err-Cause-clause-spare c =
    open-spare {A = ℕ} c.self.inside.host c.open_at.new.host c.args.bus c.args.address (Err c.in-Err-Cause.field-0) c.in-Err-Cause.ensures.host ∙ ap (λ (v : SessionState). v.host.kernel.spare) c.self.view_is

pub returns-in-Err-Memory-clause-spare : goal.returns-in-Err-Memory-clause-spare
returns-in-Err-Memory-clause-spare c =
    open-spare {A = ℕ} c.self.inside.host c.open_at.new.host c.args.bus c.args.address (Err c.in-Err-Memory.field-0) c.in-Err-Memory.ensures.host ∙ ap (λ (v : SessionState). v.host.kernel.spare) c.self.view_is

pub returns-then-not-is_free-clause-later : goal.returns-then-not-is_free-clause-later
returns-then-not-is_free-clause-later c = extends-same c.args.self.now.host.kernel.past

pub returns-in-Ok-clause-later : goal.returns-in-Ok-clause-later
returns-in-Ok-clause-later c = later-past _ c.self.view_is (open-past c.self.inside.host c.open_at.new.host c.args.bus c.args.address (Ok c.in-Ok.device) c.in-Ok.ensures.host)

pub returns-in-Err-Cause-clause-later : goal.returns-in-Err-Cause-clause-later
returns-in-Err-Cause-clause-later c = later-past _ c.self.view_is (open-past {A = ℕ} c.self.inside.host c.open_at.new.host c.args.bus c.args.address (Err c.in-Err-Cause.field-0) c.in-Err-Cause.ensures.host)

pub returns-in-Err-Memory-clause-later : goal.returns-in-Err-Memory-clause-later
returns-in-Err-Memory-clause-later c = later-past _ c.self.view_is (open-past {A = ℕ} c.self.inside.host c.open_at.new.host c.args.bus c.args.address (Err c.in-Err-Memory.field-0) c.in-Err-Memory.ensures.host)
