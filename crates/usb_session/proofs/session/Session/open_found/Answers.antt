use Rattle.std.proofs.Common.{ℕ, ◌≡◌, ◌∙◌, ap, sym, subst, Ok, Err}
use Rattle.usb_device_host.specs.HostState.{HostState}
use Rattle.usb_session_calls.specs.Names.{set_name, is_free}
use Rattle.usb_session_calls.specs.SessionState.{SessionState, IsSound}
use Rattle.usb_session.specs.SessionFacts.{made_of}
use Rattle.usb_session_calls.proofs.Answering.{answers}
use Rattle.usb_session.proofs.OpenCode.{open-sound, open-left, open-gives, open-refused, open-spare}
use Rattle.usb_session.proofs.Later.{later-past}
use Rattle.usb_session.proofs.OpenCode.{open-past}
use Rattle.usb_session.proofs.session.Session.open_found.Goals as goal

pub invariant_of-self : goal.invariant_of-self
invariant_of-self c =
    open-sound (made_of c.self.inside) c.open.new.host c.put_at.new.names.items c.args.name c.in-Ok.device c.args.found.now.numbers.busnum c.args.found.now.numbers.address c.self.invariant c.in-Ok.ensures.tried c.in-Ok.ensures.host c.in-Ok.ensures.stands
    (ap (λ (v : SessionState). is_free v.devices c.args.name) c.self.view_is ∙ c.requires.free)
    (rw (← c.number.ensures.value) c.put_at.ensures.after)

pub returns-in-Ok-clause-answered : goal.returns-in-Ok-clause-answered
returns-in-Ok-clause-answered c =
    let after : c.put_at.new.names.items ≡ set_name c.self.inside.devices.items c.args.name c.in-Ok.device = rw (← c.number.ensures.value) c.put_at.ensures.after in
    answers _ _ _ c.self.view_is c.write_ok.ensures.text
    (λ state r. open-gives (made_of c.self.inside) state c.open.new.host c.put_at.new.names.items c.args.name c.in-Ok.device c.args.found.now.numbers.busnum c.args.found.now.numbers.address r (ap (λ (v : SessionState). is_free v.devices c.args.name) c.self.view_is ∙ c.requires.free) c.in-Ok.ensures.tried c.in-Ok.ensures.host after)

pub returns-in-Ok-clause-spare : goal.returns-in-Ok-clause-spare
returns-in-Ok-clause-spare c =
    open-spare c.self.inside.host c.open.new.host c.args.found.now.numbers.busnum c.args.found.now.numbers.address (Ok c.in-Ok.device) c.in-Ok.ensures.host ∙ ap (λ (v : SessionState). v.host.kernel.spare) c.self.view_is

pub returns-in-Err-Cause-clause-answered : goal.returns-in-Err-Cause-clause-answered
returns-in-Err-Cause-clause-answered c =
    answers _ _ _ c.self.view_is (rw c.in-Err-Cause.error-is at c.write_error.ensures.text)
    (λ state r. open-refused (made_of c.self.inside) state c.open.new.host c.args.name c.args.found.now.numbers.busnum c.args.found.now.numbers.address c.in-Err-Cause.error r (ap (λ (v : SessionState). is_free v.devices c.args.name) c.self.view_is ∙ c.requires.free) (rw c.in-Err-Cause.field-0-is at c.in-Err-Cause.ensures.tried) (rw c.in-Err-Cause.field-0-is at c.in-Err-Cause.ensures.host))

pub invariant_of-self-in-Err-Cause : goal.invariant_of-self-in-Err-Cause
invariant_of-self-in-Err-Cause c = open-left (made_of c.self.inside) c.open.new.host c.args.found.now.numbers.busnum c.args.found.now.numbers.address c.in-Err-Cause.error c.self.invariant (rw c.in-Err-Cause.field-0-is at c.in-Err-Cause.ensures.tried) (rw c.in-Err-Cause.field-0-is at c.in-Err-Cause.ensures.host)

pub invariant_of-self-in-Err-Memory : goal.invariant_of-self-in-Err-Memory
invariant_of-self-in-Err-Memory c =
    let same = rw c.in-Err-Memory.field-0-is at c.in-Err-Memory.ensures.host in
    subst (λ (h : HostState). IsSound (record (made_of c.self.inside) { host = h })) (sym same) c.self.invariant

pub returns-in-Err-Cause-clause-spare : goal.returns-in-Err-Cause-clause-spare
returns-in-Err-Cause-clause-spare c =
    open-spare {A = ℕ} c.self.inside.host c.open.new.host c.args.found.now.numbers.busnum c.args.found.now.numbers.address (Err c.in-Err-Cause.field-0) c.in-Err-Cause.ensures.host ∙ ap (λ (v : SessionState). v.host.kernel.spare) c.self.view_is

pub returns-in-Err-Memory-clause-spare : goal.returns-in-Err-Memory-clause-spare
returns-in-Err-Memory-clause-spare c =
    open-spare {A = ℕ} c.self.inside.host c.open.new.host c.args.found.now.numbers.busnum c.args.found.now.numbers.address (Err c.in-Err-Memory.field-0) c.in-Err-Memory.ensures.host ∙ ap (λ (v : SessionState). v.host.kernel.spare) c.self.view_is

pub returns-in-Ok-clause-later : goal.returns-in-Ok-clause-later
returns-in-Ok-clause-later c = later-past _ c.self.view_is (open-past c.self.inside.host c.open.new.host c.args.found.now.numbers.busnum c.args.found.now.numbers.address (Ok c.in-Ok.device) c.in-Ok.ensures.host)

pub returns-in-Err-Cause-clause-later : goal.returns-in-Err-Cause-clause-later
returns-in-Err-Cause-clause-later c = later-past _ c.self.view_is (open-past {A = ℕ} c.self.inside.host c.open.new.host c.args.found.now.numbers.busnum c.args.found.now.numbers.address (Err c.in-Err-Cause.field-0) c.in-Err-Cause.ensures.host)

pub returns-in-Err-Memory-clause-later : goal.returns-in-Err-Memory-clause-later
returns-in-Err-Memory-clause-later c = later-past _ c.self.view_is (open-past {A = ℕ} c.self.inside.host c.open.new.host c.args.found.now.numbers.busnum c.args.found.now.numbers.address (Err c.in-Err-Memory.field-0) c.in-Err-Memory.ensures.host)
