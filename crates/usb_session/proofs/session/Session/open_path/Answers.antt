use Rattle.std.proofs.Common.{◌∙◌, sym, ap}
use Rattle.usb_enum.specs.Probing.{probe}
use Rattle.usb_session_calls.specs.Names.{is_free}
use Rattle.usb_session.specs.SessionFacts.{made_of}
use Rattle.usb_session_calls.specs.SessionState.{SessionState}
use Rattle.usb_session_calls.proofs.NameLemmas.{free_at}
use Rattle.usb_session_calls.proofs.Answering.{answers-same}
use Rattle.usb_session.proofs.TreeAnswers.{answers-found, open_path-refused, open_path-barred}
use Rattle.usb_kernel.proofs.Extends.{extends-same}
use Rattle.usb_session.proofs.session.Session.open_path.Goals as goal

pub returns-then-not-is_free-clause-answered : goal.returns-then-not-is_free-clause-answered
returns-then-not-is_free-clause-answered c =
    answers-same _ _ _ c.self.view_is c.write_condition.ensures.text
    (λ state r. open_path-barred (made_of c.self.inside) state c.args.name c.args.path.now (free_at _ _ _ _ _ _ c.deref.ensures.value c.number.ensures.value c.is_free.ensures.free c.if-not-is_free.true) r)

pub returns-in-Ok-clause-answered : goal.returns-in-Ok-clause-answered
returns-in-Ok-clause-answered c =
    let free = free_at _ _ _ _ _ _ c.deref.ensures.value c.number.ensures.value c.is_free.ensures.free c.if-not-is_free.false in
    answers-found c.args.self.now c.open_found.new.self c.args.line.now c.open_found.new.line c.open_found.result c.args.name c.args.path.now c.in-Ok.found
    (ap (λ (v : SessionState). is_free v.devices c.args.name) (sym c.self.view_is) ∙ free)
    (ap (λ (v : SessionState). probe v.tree c.args.path.now) (sym c.self.view_is) ∙ c.in-Ok.ensures.tried)
    c.open_found.ensures.answered

pub returns-in-Err-Cause-clause-answered : goal.returns-in-Err-Cause-clause-answered
returns-in-Err-Cause-clause-answered c =
    answers-same _ _ _ c.self.view_is (rw c.in-Err-Cause.error-is at c.write_sysfs_error.ensures.text)
    (λ state r. open_path-refused (made_of c.self.inside) state c.args.name c.args.path.now _ (free_at _ _ _ _ _ _ c.deref.ensures.value c.number.ensures.value c.is_free.ensures.free c.if-not-is_free.false) (rw c.in-Err-Cause.field-0-is at c.in-Err-Cause.ensures.tried) r)

pub returns-then-not-is_free-clause-later : goal.returns-then-not-is_free-clause-later
returns-then-not-is_free-clause-later c = extends-same c.args.self.now.host.kernel.past

pub returns-in-Err-Cause-clause-later : goal.returns-in-Err-Cause-clause-later
returns-in-Err-Cause-clause-later c = extends-same c.args.self.now.host.kernel.past

pub returns-in-Err-Memory-clause-later : goal.returns-in-Err-Memory-clause-later
returns-in-Err-Memory-clause-later c = extends-same c.args.self.now.host.kernel.past
