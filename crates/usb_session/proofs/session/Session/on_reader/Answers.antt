use Rattle.std.proofs.Common.{◌≡◌, refl, sym, ◌∙◌, ap, subst, Some}
use Rattle.std.specs.Option.{option_map}
use Rattle.usb_session_calls.specs.EndpointNames.{OfReader}
use Rattle.usb_session_calls.specs.State.{State}
use Rattle.usb_session_calls.specs.SessionState.{SessionState, IsSound}
use Rattle.usb_session.specs.SessionFacts.{made_of}
use Rattle.usb_session_calls.specs.CalledReaders.{reader_called, on_reader}
use Rattle.usb_session_calls.proofs.Called.{readers_kept}
use Rattle.usb_session_calls.proofs.LentHosts.{stands-lent, line-same}
use Rattle.usb_session.proofs.TakenOut.{PutBack, put_back, free_again, same-none, back-changes, answers-none, answers-reader}
use Rattle.usb_session.proofs.Replaced.{reader_endpoint, reader-replaces}
use Rattle.usb_session.proofs.Lent.{lent_is, sound-lent, sound-stepped, answers-along, spare-lent}
use Rattle.usb_kernel.proofs.Extends.{extends-same}
use Rattle.usb_session.proofs.Later.{later-lent}
use Rattle.usb_session.proofs.session.Session.on_reader.Goals as goal
use Rattle.usb_session.proofs.session.Session.on_reader.Goals.{After-rest-2, After-write_condition}

back : (c : After-rest-2) → PutBack c.self.inside.readers.items c.put_at.new.names.items c.number-number.result c.in-Some.reader c.call_reader-called.new.reader
back c = put_back _ _ _ _ _ _ _ c.take_at.ensures.taken c.in-Some.is c.take_at.ensures.rest c.put_at.ensures.after

same : (c : After-write_condition) → c.take_at.new.names.items ≡ c.self.inside.readers.items
same c = same-none _ _ _ _ c.take_at.ensures.taken c.in_default.is c.take_at.ensures.rest

pub invariant_of-self : goal.invariant_of-self
invariant_of-self c =
    subst (λ l. IsSound (record (made_of c.self.inside) { host = c.rest.new.self; readers = l })) (sym (same c))
    (sound-stepped (made_of c.self.inside) _ _ _ c.self.invariant c.lend_steps.ensures.steps c.rest.ensures.rest)

pub returns-in_default-clause-answered : goal.returns-in_default-clause-answered
unfolding on_reader
returns-in_default-clause-answered c =
    let s : SessionState = record (made_of c.self.inside) { host = c.lend_steps.new.self } in
    answers-along _ (made_of c.self.inside) _ c.args.steps _ _ _ c.args.line.now c.write_condition.new.out c.write_condition.result (λ z. on_reader z c.args.name c.args.call) c.self.view_is
    (lent_is c.self.inside.host _ _ _ c.lend_steps.ensures.steps c.into_vec.ensures.value) refl c.rest.ensures.rest
    (answers-none (λ (state : State). state.readers) (λ (z : SessionState). z.readers) _ readers_kept s (record s { readers = c.take_at.new.names.items }) _ c.args.name c.number-number.ensures.value
    c.args.line.now c.write_condition.new.out c.write_condition.result (λ state x. reader_called c.args.call state c.args.name x)
    (sym c.take_at.ensures.taken ∙ c.in_default.is) (ap (λ l. record s { readers = l }) (same c)) c.write_condition.ensures.text)

pub returns-in_default-clause-spare : goal.returns-in_default-clause-spare
returns-in_default-clause-spare c =
    spare-lent (made_of c.self.inside) _ _ _ _ _ c.self.view_is (lent_is c.self.inside.host _ _ _ c.lend_steps.ensures.steps c.into_vec.ensures.value) (line-same c.lend_steps.new.self) c.rest.ensures.rest c.requires.room

pub call_reader-called-requires : goal.call_reader-called-requires
call_reader-called-requires c = record {
  stands = stands-lent _ _ _ _ c.lend_steps.ensures.steps (c.self.invariant.endpoints_stand (OfReader c.number-number.result) c.in-Some.reader.endpoint (ap (option_map reader_endpoint) (sym c.take_at.ensures.taken ∙ c.in-Some.is)));
}

pub put_at-requires : goal.put_at-requires
put_at-requires c = record { free = free_again _ _ _ _ _ c.take_at.ensures.taken c.in-Some.is c.take_at.ensures.rest }

pub invariant_of-self-2 : goal.invariant_of-self-2
invariant_of-self-2 c =
    let s = made_of c.self.inside in
    let n = c.number-number.result in
    let x = c.in-Some.reader in
    let y = c.call_reader-called.new.reader in
    sound-lent s _ _ _ _ s.endpoints c.put_at.new.names.items s.writers s.clients (OfReader n) x.endpoint y.endpoint c.self.invariant c.lend_steps.ensures.steps (ap (option_map reader_endpoint) (back c).was)
    (reader-replaces s n c.put_at.new.names.items (Some y) (back-changes _ _ n x y (back c))) c.call_reader-called.ensures.keeps c.rest-2.ensures.rest

pub returns-clause-answered : goal.returns-clause-answered
unfolding on_reader
returns-clause-answered c =
    answers-along _ (made_of c.self.inside) _ c.args.steps _ _ _ c.args.line.now c.call_reader-called.new.line c.call_reader-called.result (λ z. on_reader z c.args.name c.args.call) c.self.view_is
    (lent_is c.self.inside.host _ _ _ c.lend_steps.ensures.steps c.into_vec.ensures.value) refl c.rest-2.ensures.rest
    (answers-reader (made_of c.self.inside) _ _ _ c.args.name c.number-number.ensures.value c.args.line.now c.call_reader-called.new.line _ _ _ _ (reader_called c.args.call) (back c) c.call_reader-called.ensures.answered)

pub returns-clause-spare : goal.returns-clause-spare
returns-clause-spare c =
    spare-lent (made_of c.self.inside) _ _ _ _ _ c.self.view_is (lent_is c.self.inside.host _ _ _ c.lend_steps.ensures.steps c.into_vec.ensures.value) c.call_reader-called.ensures.keeps.line c.rest-2.ensures.rest c.requires.room

pub returns-in_default-clause-later : goal.returns-in_default-clause-later
returns-in_default-clause-later c = later-lent _ c.lend_steps.new.self c.lend_steps.new.self c.rest.new.self c.self.view_is c.lend_steps.ensures.steps (extends-same c.lend_steps.new.self.kernel.past) c.rest.ensures.rest

pub returns-clause-later : goal.returns-clause-later
returns-clause-later c = later-lent _ c.lend_steps.new.self c.call_reader-called.new.host c.rest-2.new.self c.self.view_is c.lend_steps.ensures.steps c.call_reader-called.ensures.keeps.past c.rest-2.ensures.rest
