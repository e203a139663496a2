use Rattle.std.proofs.Common.{refl, sym, ◌∙◌, subst}
use Rattle.usb_session_text.specs.Calls.{condition_line}
use Rattle.usb_session_calls.specs.Writers.{writer_inner_answer}
use Rattle.usb_session_calls.specs.SessionState.{IsSound}
use Rattle.usb_session_calls.proofs.NameLemmas.{free_at}
use Rattle.usb_session_calls.proofs.Answering.{Gives, answers, answers-same}
use Rattle.usb_session.specs.SessionFacts.{made_of}
use Rattle.usb_session.proofs.TakenOut.{same-none}
use Rattle.usb_session.proofs.WriterMoves.{given-sound, inner-gives, inner-used, inner-none}
use Rattle.usb_kernel.proofs.Extends.{extends-same}
use Rattle.usb_session.proofs.Later.{later-same}
use Rattle.usb_session.proofs.session.Session.writer_inner.Goals as goal

-- the endpoint's name is in use
pub returns-then-not-is_free-clause-answered : goal.returns-then-not-is_free-clause-answered
returns-then-not-is_free-clause-answered c =
    answers-same _ _ _ c.self.view_is c.write_condition.ensures.text
    (λ state r. inner-used (made_of c.self.inside) c.args.endpoint c.args.writer state (free_at _ _ _ _ _ _ c.deref.ensures.value c.number-name.ensures.value c.is_free.ensures.free c.if-not-is_free.true) r)

-- no writer is open
pub invariant_of-self : goal.invariant_of-self
invariant_of-self c =
    subst (λ l. IsSound (record (made_of c.self.inside) { writers = l })) (sym (same-none _ _ _ _ c.take_at.ensures.taken c.in_default.is c.take_at.ensures.rest)) c.self.invariant

pub returns-in_default-clause-answered : goal.returns-in_default-clause-answered
returns-in_default-clause-answered c =
    answers _ _ _ c.self.view_is c.write_condition-in_default.ensures.text
    (λ state r.
    subst (λ l. Gives (record (made_of c.self.inside) { writers = l }) condition_line (writer_inner_answer state c.args.endpoint c.args.writer)) (sym (same-none _ _ _ _ c.take_at.ensures.taken c.in_default.is c.take_at.ensures.rest))
    (inner-none (made_of c.self.inside) c.args.endpoint c.args.writer state (rw (← c.number-number.ensures.value) (sym c.take_at.ensures.taken ∙ c.in_default.is)) r))

-- the endpoint comes back
pub put_at-requires : goal.put_at-requires
put_at-requires c = record { free = free_at _ _ _ _ _ _ c.deref.ensures.value refl c.is_free.ensures.free c.if-not-is_free.false }

pub invariant_of-self-2 : goal.invariant_of-self-2
invariant_of-self-2 c =
    given-sound (made_of c.self.inside) c.number-name.result c.number-number.result _ _ c.widen.result c.in-Some.writer (sym c.take_at.ensures.taken ∙ c.in-Some.is)
    (free_at _ _ _ _ _ _ c.deref.ensures.value refl c.is_free.ensures.free c.if-not-is_free.false) (c.widen.ensures.same ∙ c.into_inner.ensures.endpoint) c.put_at.ensures.after c.take_at.ensures.rest c.self.invariant

pub returns-clause-answered : goal.returns-clause-answered
returns-clause-answered c =
    rw (← c.number-name.ensures.value, ← c.number-number.ensures.value)
    (answers _ _ _ c.self.view_is c.write_ok.ensures.text
    (inner-gives (made_of c.self.inside) c.number-name.result c.number-number.result _ _ c.widen.result c.in-Some.writer (sym c.take_at.ensures.taken ∙ c.in-Some.is)
    (free_at _ _ _ _ _ _ c.deref.ensures.value refl c.is_free.ensures.free c.if-not-is_free.false) (c.widen.ensures.same ∙ c.into_inner.ensures.endpoint) c.put_at.ensures.after c.take_at.ensures.rest))

pub returns-then-not-is_free-clause-later : goal.returns-then-not-is_free-clause-later
returns-then-not-is_free-clause-later c = extends-same c.args.self.now.host.kernel.past

pub returns-in_default-clause-later : goal.returns-in_default-clause-later
returns-in_default-clause-later c = later-same c.self.view_is

pub returns-clause-later : goal.returns-clause-later
returns-clause-later c = later-same c.self.view_is
