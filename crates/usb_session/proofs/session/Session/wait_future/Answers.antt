use Rattle.std.proofs.Common.{◌∙◌, refl, sym}
use Rattle.usb_session_calls.specs.Names.{named}
use Rattle.usb_session_calls.specs.Answer.{condition_answer, if_open}
use Rattle.usb_session.specs.Futures.{future_waited, on_future}
use Rattle.usb_session_calls.specs.SessionState.{SessionState}
use Rattle.usb_session.specs.SessionFacts.{made_of}
use Rattle.usb_session_calls.proofs.Answering.{answers}
use Rattle.usb_session_calls.proofs.ControlCode.{spare-controlled}
use Rattle.usb_session_calls.proofs.ControlHosts.{keeps-same}
use Rattle.usb_session.proofs.FutureCalls.{wait-stands, waited-sound, waited-spare, waited-gives, wait-none_sound, none-gives}
use Rattle.usb_session.proofs.Lent.{lent_is, answers-along}
use Rattle.usb_kernel.proofs.Extends.{extends-same}
use Rattle.usb_session.proofs.Later.{later-lent}
use Rattle.usb_session.proofs.FutureCalls.{waited-later}
use Rattle.usb_session.proofs.session.Session.wait_future.Goals as goal

pub invariant_of-self : goal.invariant_of-self
invariant_of-self c =
    wait-none_sound (made_of c.self.inside) _ c.lend_steps.new.self c.rest.new.self c.take_at.new.names.items c.number.result c.self.invariant c.lend_steps.ensures.steps c.rest.ensures.rest
    (sym c.take_at.ensures.taken ∙ c.in_default.is) c.take_at.ensures.rest

pub returns-in_default-clause-answered : goal.returns-in_default-clause-answered
unfolding on_future
returns-in_default-clause-answered c =
    let lent : SessionState = record (made_of c.self.inside) { host = c.lend_steps.new.self } in
    answers-along _ (made_of c.self.inside) (record lent { futures = c.take_at.new.names.items }) c.args.steps _ _ _ c.args.line.now c.write_condition.new.out c.write_condition.result
    (λ s. if_open (named s.futures c.args.name) (future_waited s c.args.name) (condition_answer s)) c.self.view_is (lent_is c.self.inside.host _ _ _ c.lend_steps.ensures.steps c.into_vec.ensures.value) refl c.rest.ensures.rest
    (answers _ _ _ refl c.write_condition.ensures.text
    (λ state r. none-gives lent state c.take_at.new.names.items c.args.name (future_waited state c.args.name) r
    (rw c.number.ensures.value at (sym c.take_at.ensures.taken ∙ c.in_default.is)) (rw c.number.ensures.value at c.take_at.ensures.rest)))

pub returns-in_default-clause-spare : goal.returns-in_default-clause-spare
returns-in_default-clause-spare c =
    spare-controlled c.args.self.now (made_of c.self.inside) c.args.steps c.lend_steps.new.self c.lend_steps.new.self c.rest.new.self c.self.view_is
    (lent_is c.self.inside.host _ _ _ c.lend_steps.ensures.steps c.into_vec.ensures.value) (keeps-same c.lend_steps.new.self) c.rest.ensures.rest c.requires.room

pub wait-answer-requires-clause-stands : goal.wait-answer-requires-clause-stands
wait-answer-requires-clause-stands c =
    wait-stands (made_of c.self.inside) _ c.lend_steps.new.self c.number.result c.in-Some.future c.self.invariant c.lend_steps.ensures.steps (sym c.take_at.ensures.taken ∙ c.in-Some.is)

pub invariant_of-self-2 : goal.invariant_of-self-2
invariant_of-self-2 c =
    waited-sound (made_of c.self.inside) _ c.lend_steps.new.self c.wait-answer.new.host c.rest-2.new.self c.take_at.new.names.items c.number.result c.in-Some.future c.self.invariant c.lend_steps.ensures.steps
    (sym c.take_at.ensures.taken ∙ c.in-Some.is) c.take_at.ensures.rest c.wait-answer.ensures.host c.rest-2.ensures.rest

pub returns-clause-answered : goal.returns-clause-answered
unfolding on_future
returns-clause-answered c =
    let lent : SessionState = record (made_of c.self.inside) { host = c.lend_steps.new.self } in
    answers-along _ (made_of c.self.inside) (record lent { host = c.wait-answer.new.host; futures = c.take_at.new.names.items }) c.args.steps _ _ _ c.args.line.now c.write_received.new.out c.write_received.result
    (λ s. if_open (named s.futures c.args.name) (future_waited s c.args.name) (condition_answer s)) c.self.view_is (lent_is c.self.inside.host _ _ _ c.lend_steps.ensures.steps c.into_vec.ensures.value) refl c.rest-2.ensures.rest
    (answers _ _ _ refl c.write_received.ensures.text
    (λ state r. waited-gives lent state c.wait-answer.new.host c.take_at.new.names.items c.args.name c.in-Some.future _ r
    (rw c.number.ensures.value at (sym c.take_at.ensures.taken ∙ c.in-Some.is)) (rw c.number.ensures.value at c.take_at.ensures.rest) c.wait-answer.ensures.host c.wait-answer.ensures.answer))

pub returns-clause-spare : goal.returns-clause-spare
returns-clause-spare c =
    waited-spare c.args.self.now (made_of c.self.inside) c.args.steps c.lend_steps.new.self c.wait-answer.new.host c.rest-2.new.self c.number.result c.in-Some.future c.self.invariant c.self.view_is
    (lent_is c.self.inside.host _ _ _ c.lend_steps.ensures.steps c.into_vec.ensures.value) (sym c.take_at.ensures.taken ∙ c.in-Some.is) c.wait-answer.ensures.host c.rest-2.ensures.rest c.requires.room

pub returns-in_default-clause-later : goal.returns-in_default-clause-later
returns-in_default-clause-later c = later-lent _ c.lend_steps.new.self c.lend_steps.new.self c.rest.new.self c.self.view_is c.lend_steps.ensures.steps (extends-same c.lend_steps.new.self.kernel.past) c.rest.ensures.rest

pub returns-clause-later : goal.returns-clause-later
returns-clause-later c = waited-later c.args.self.now (made_of c.self.inside) _ c.lend_steps.new.self c.wait-answer.new.host c.rest-2.new.self c.number.result c.in-Some.future c.self.invariant c.self.view_is c.lend_steps.ensures.steps (sym c.take_at.ensures.taken ∙ c.in-Some.is) c.wait-answer.ensures.host c.rest-2.ensures.rest
