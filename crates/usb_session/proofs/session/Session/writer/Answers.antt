use Rattle.std.proofs.Common.{arith, inl, refl, sym, ◌∙◌, ap, subst}
use Rattle.usb_device_endpoint.specs.EndpointState.{EndpointState}
use Rattle.usb_io.specs.Writers.{WriterState, fresh_writer}
use Rattle.usb_session_text.specs.Calls.{condition_line}
use Rattle.usb_session_calls.specs.Names.{set_name}
use Rattle.usb_session_calls.specs.Writers.{writer_answer}
use Rattle.usb_session_calls.specs.SessionState.{IsSound}
use Rattle.usb_session_calls.proofs.NameLemmas.{free_at}
use Rattle.usb_session_calls.proofs.Answering.{Gives, answers, answers-same}
use Rattle.usb_session.specs.SessionFacts.{made_of}
use Rattle.usb_session.proofs.TakenOut.{free_again, same-none}
use Rattle.usb_session.proofs.Moves.{put_same}
use Rattle.usb_session.proofs.WriterMoves.{made-sound, writer-gives, writer-used, writer-none, writer-in}
use Rattle.usb_kernel.proofs.Extends.{extends-same}
use Rattle.usb_session.proofs.Later.{later-same}
use Rattle.usb_session.proofs.session.Session.writer.Goals as goal

-- the writer's name is in use
pub returns-then-not-is_free-clause-answered : goal.returns-then-not-is_free-clause-answered
returns-then-not-is_free-clause-answered c =
    answers-same _ _ _ c.self.view_is c.write_condition.ensures.text
    (λ state r. writer-used (made_of c.self.inside) c.args.endpoint c.args.writer c.args.transfer_size state (free_at _ _ _ _ _ _ c.deref.ensures.value c.number-name.ensures.value c.is_free.ensures.free c.if-not-is_free.true) r)

-- no endpoint is open
pub invariant_of-self : goal.invariant_of-self
invariant_of-self c =
    subst (λ l. IsSound (record (made_of c.self.inside) { endpoints = l })) (sym (same-none _ _ _ _ c.take_at.ensures.taken c.in_default.is c.take_at.ensures.rest)) c.self.invariant

pub returns-in_default-clause-answered : goal.returns-in_default-clause-answered
returns-in_default-clause-answered c =
    answers _ _ _ c.self.view_is c.write_condition-in_default.ensures.text
    (λ state r.
    subst (λ l. Gives (record (made_of c.self.inside) { endpoints = l }) condition_line (writer_answer state c.args.writer c.args.endpoint c.args.transfer_size)) (sym (same-none _ _ _ _ c.take_at.ensures.taken c.in_default.is c.take_at.ensures.rest))
    (writer-none (made_of c.self.inside) c.args.endpoint c.args.writer c.args.transfer_size state (rw (← c.number-number.ensures.value) (sym c.take_at.ensures.taken ∙ c.in_default.is)) r))

-- the size fits
pub new-made-requires : goal.new-made-requires
new-made-requires c = record { fits = inl (omega (arith, c.bytes.ensures.small)) }

-- the writer stands under its name
pub put_at-requires : goal.put_at-requires
put_at-requires c = record { free = free_at _ _ _ _ _ _ c.deref.ensures.value refl c.is_free.ensures.free c.if-not-is_free.false }

pub invariant_of-self-in-Ok : goal.invariant_of-self-in-Ok
invariant_of-self-in-Ok c =
    made-sound (made_of c.self.inside) c.number-number.result c.number-name.result _ _ c.in-Some.endpoint c.new-made.result (sym c.take_at.ensures.taken ∙ c.in-Some.is)
    (free_at _ _ _ _ _ _ c.deref.ensures.value refl c.is_free.ensures.free c.if-not-is_free.false) c.take_at.ensures.rest c.put_at.ensures.after c.self.invariant
    (ap (λ (z : WriterState). z.endpoint) c.new-made.ensures.fresh ∙ c.in-Ok.ensures.same)

pub returns-in-Ok-clause-answered : goal.returns-in-Ok-clause-answered
returns-in-Ok-clause-answered c =
    rw (← c.number-number.ensures.value, ← c.number-name.ensures.value, ← c.bytes.ensures.value)
    (answers _ _ _ c.self.view_is c.write_ok.ensures.text
    (writer-gives (made_of c.self.inside) c.number-number.result c.number-name.result _ _ c.in-Some.endpoint c.new-made.result (sym c.take_at.ensures.taken ∙ c.in-Some.is)
    (free_at _ _ _ _ _ _ c.deref.ensures.value refl c.is_free.ensures.free c.if-not-is_free.false) c.take_at.ensures.rest c.put_at.ensures.after c.bytes.result
    (c.new-made.ensures.fresh ∙ ap (λ (z : EndpointState). fresh_writer z c.bytes.result) c.in-Ok.ensures.same) c.in-Ok.ensures.is.1))

-- or the endpoint stands under its own again
pub put_at-requires-in-Err : goal.put_at-requires-in-Err
put_at-requires-in-Err c = record { free = free_again _ _ _ _ _ c.take_at.ensures.taken c.in-Some.is c.take_at.ensures.rest }

pub invariant_of-self-in-Err : goal.invariant_of-self-in-Err
invariant_of-self-in-Err c =
    subst (λ l. IsSound (record (made_of c.self.inside) { endpoints = l }))
    (sym (put_same _ _ _ c.number-number.result c.in-Some.endpoint (sym c.take_at.ensures.taken ∙ c.in-Some.is) c.take_at.ensures.rest
    (c.put_at-in-Err.ensures.after ∙ ap (set_name c.take_at.new.names.items c.number-number.result) c.in-Err.ensures.back))) c.self.invariant

pub returns-in-Err-clause-answered : goal.returns-in-Err-clause-answered
returns-in-Err-clause-answered c =
    rw (← c.number-number.ensures.value, ← c.number-name.ensures.value)
    (answers _ _ _ c.self.view_is c.write_condition-in-Err.ensures.text
    (λ state r.
    subst (λ l. Gives (record (made_of c.self.inside) { endpoints = l }) condition_line (writer_answer state c.number-name.result c.number-number.result c.args.transfer_size))
    (sym (put_same _ _ _ c.number-number.result c.in-Some.endpoint (sym c.take_at.ensures.taken ∙ c.in-Some.is) c.take_at.ensures.rest
    (c.put_at-in-Err.ensures.after ∙ ap (set_name c.take_at.new.names.items c.number-number.result) c.in-Err.ensures.back)))
    (writer-in (made_of c.self.inside) c.number-number.result c.number-name.result c.args.transfer_size c.in-Some.endpoint state (sym c.take_at.ensures.taken ∙ c.in-Some.is) (c.in-Err.ensures.other tt) r)))

pub returns-then-not-is_free-clause-later : goal.returns-then-not-is_free-clause-later
returns-then-not-is_free-clause-later c = extends-same c.args.self.now.host.kernel.past

pub returns-in_default-clause-later : goal.returns-in_default-clause-later
returns-in_default-clause-later c = later-same c.self.view_is

pub returns-in-Ok-clause-later : goal.returns-in-Ok-clause-later
returns-in-Ok-clause-later c = later-same c.self.view_is

pub returns-in-Err-clause-later : goal.returns-in-Err-clause-later
returns-in-Err-clause-later c = later-same c.self.view_is
