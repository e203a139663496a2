use Rattle.std.proofs.Common.{◌≡◌, refl, sym, ◌∙◌, ap, subst, Some}
use Rattle.usb_session_calls.specs.EndpointNames.{Own}
use Rattle.usb_session_calls.specs.State.{State}
use Rattle.usb_session_calls.specs.SessionState.{SessionState, IsSound}
use Rattle.usb_session.specs.SessionFacts.{made_of}
use Rattle.usb_session_calls.specs.EndpointCalls.{endpoint_called, on_endpoint}
use Rattle.usb_session_calls.proofs.Called.{endpoints_kept}
use Rattle.usb_session_calls.proofs.LentHosts.{stands-lent, line-same}
use Rattle.usb_session.proofs.TakenOut.{PutBack, put_back, free_again, same-none, back-changes, answers-none, answers-endpoint}
use Rattle.usb_session.proofs.Replaced.{own-replaces}
use Rattle.usb_session.proofs.Lent.{lent_is, sound-lent, sound-stepped, answers-along, spare-lent}
use Rattle.usb_kernel.proofs.Extends.{extends-same}
use Rattle.usb_session.proofs.Later.{later-lent}
use Rattle.usb_session.proofs.session.Session.on_endpoint.Goals as goal
use Rattle.usb_session.proofs.session.Session.on_endpoint.Goals.{After-rest-2, Joined-call}

back : (c : After-rest-2) → PutBack c.self.inside.endpoints.items c.put_at.new.names.items c.number-number.result c.in-Some.endpoint c.call_endpoint-called.new.endpoint
back c = put_back _ _ _ _ _ _ _ c.take_at.ensures.taken c.in-Some.is c.take_at.ensures.rest c.put_at.ensures.after

same : (c : Joined-call) → c.take_at.new.names.items ≡ c.self.inside.endpoints.items
same c = same-none _ _ _ _ c.take_at.ensures.taken c.in_default.is c.take_at.ensures.rest

pub invariant_of-self : goal.invariant_of-self
invariant_of-self c =
    subst (λ l. IsSound (record (made_of c.self.inside) { host = c.rest.new.self; endpoints = l })) (sym (same c))
    (sound-stepped (made_of c.self.inside) _ _ _ c.self.invariant c.lend_steps.ensures.steps c.rest.ensures.rest)

pub returns-in_default-clause-answered : goal.returns-in_default-clause-answered
unfolding on_endpoint
returns-in_default-clause-answered c =
    let s : SessionState = record (made_of c.self.inside) { host = c.lend_steps.new.self } in
    answers-along _ (made_of c.self.inside) _ c.args.steps _ _ _ c.args.line.now c.write_condition.new.out c.write_condition.result (λ z. on_endpoint z c.args.name c.args.call) c.self.view_is
    (lent_is c.self.inside.host _ _ _ c.lend_steps.ensures.steps c.into_vec.ensures.value) refl c.rest.ensures.rest
    (answers-none (λ (state : State). state.endpoints) (λ (z : SessionState). z.endpoints) _ endpoints_kept s (record s { endpoints = c.take_at.new.names.items }) _ c.args.name c.number-number.ensures.value
    c.args.line.now c.write_condition.new.out c.write_condition.result (λ state x. endpoint_called c.args.call state c.args.name x)
    (sym c.take_at.ensures.taken ∙ c.in_default.is) (ap (λ l. record s { endpoints = l }) (same c)) c.write_condition.ensures.text)

pub returns-in_default-clause-spare : goal.returns-in_default-clause-spare
returns-in_default-clause-spare c =
    spare-lent (made_of c.self.inside) _ _ _ _ _ c.self.view_is (lent_is c.self.inside.host _ _ _ c.lend_steps.ensures.steps c.into_vec.ensures.value) (line-same c.lend_steps.new.self) c.rest.ensures.rest c.requires.room

pub call_endpoint-called-requires : goal.call_endpoint-called-requires
call_endpoint-called-requires c = record {
  stands = stands-lent _ _ _ _ c.lend_steps.ensures.steps (c.self.invariant.endpoints_stand (Own c.number-number.result) c.in-Some.endpoint (sym c.take_at.ensures.taken ∙ c.in-Some.is));
}

pub put_at-requires : goal.put_at-requires
put_at-requires c = record { free = free_again _ _ _ _ _ c.take_at.ensures.taken c.in-Some.is c.take_at.ensures.rest }

pub invariant_of-self-2 : goal.invariant_of-self-2
invariant_of-self-2 c =
    let s = made_of c.self.inside in
    let n = c.number-number.result in
    let x = c.in-Some.endpoint in
    let y = c.call_endpoint-called.new.endpoint in
    sound-lent s _ _ _ _ c.put_at.new.names.items s.readers s.writers s.clients (Own n) x y c.self.invariant c.lend_steps.ensures.steps (back c).was
    (own-replaces s n c.put_at.new.names.items (Some y) (back-changes _ _ n x y (back c))) c.call_endpoint-called.ensures.keeps c.rest-2.ensures.rest

pub returns-clause-answered : goal.returns-clause-answered
unfolding on_endpoint
returns-clause-answered c =
    answers-along _ (made_of c.self.inside) _ c.args.steps _ _ _ c.args.line.now c.call_endpoint-called.new.line c.call_endpoint-called.result (λ z. on_endpoint z c.args.name c.args.call) c.self.view_is
    (lent_is c.self.inside.host _ _ _ c.lend_steps.ensures.steps c.into_vec.ensures.value) refl c.rest-2.ensures.rest
    (answers-endpoint (made_of c.self.inside) _ _ _ c.args.name c.number-number.ensures.value c.args.line.now c.call_endpoint-called.new.line _ _ _ _ (endpoint_called c.args.call) (back c) c.call_endpoint-called.ensures.answered)

pub returns-clause-spare : goal.returns-clause-spare
returns-clause-spare c =
    spare-lent (made_of c.self.inside) _ _ _ _ _ c.self.view_is (lent_is c.self.inside.host _ _ _ c.lend_steps.ensures.steps c.into_vec.ensures.value) c.call_endpoint-called.ensures.keeps.line c.rest-2.ensures.rest c.requires.room

pub returns-in_default-clause-later : goal.returns-in_default-clause-later
returns-in_default-clause-later c = later-lent _ c.lend_steps.new.self c.lend_steps.new.self c.rest.new.self c.self.view_is c.lend_steps.ensures.steps (extends-same c.lend_steps.new.self.kernel.past) c.rest.ensures.rest

pub returns-clause-later : goal.returns-clause-later
returns-clause-later c = later-lent _ c.lend_steps.new.self c.call_endpoint-called.new.host c.rest-2.new.self c.self.view_is c.lend_steps.ensures.steps c.call_endpoint-called.ensures.keeps.past c.rest-2.ensures.rest
