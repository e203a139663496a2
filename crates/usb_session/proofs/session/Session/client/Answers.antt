use Rattle.std.proofs.Common.{refl, sym, ◌∙◌, ap, subst}
use Rattle.usb_session_text.specs.Calls.{condition_line}
use Rattle.usb_session_calls.specs.Names.{named, is_free, freed, set_name}
use Rattle.usb_session_calls.specs.Clients.{client_answer}
use Rattle.usb_session_calls.specs.SessionState.{IsSound}
use Rattle.usb_session_calls.proofs.NameLemmas.{free_at, freed-free}
use Rattle.usb_session_calls.proofs.Answering.{Gives, answers, answers-same}
use Rattle.usb_session.specs.SessionFacts.{made_of}
use Rattle.usb_session.proofs.Moves.{put_same}
use Rattle.usb_session.proofs.ClientMoves.{client-made-sound, client-gives, client-used, client-not_out, client-not_in, both-back}
use Rattle.usb_session.proofs.session.Session.client.Goals as goal

-- the client's name is in use
pub returns-then-not-is_free-clause-answered : goal.returns-then-not-is_free-clause-answered
returns-then-not-is_free-clause-answered c =
    answers-same _ _ _ c.self.view_is c.write_condition.ensures.text
    (λ state r. client-used (made_of c.self.inside) c.args.client c.args.out c.args.inp state (free_at _ _ _ _ _ _ c.deref.ensures.value c.number-name.ensures.value c.is_free.ensures.free c.if-not-is_free.true) r)

-- no OUT endpoint is idle under the first name
pub returns-in_default-clause-answered : goal.returns-in_default-clause-answered
returns-in_default-clause-answered c =
    rw (← c.number-name.ensures.value, ← c.number-first.ensures.value, ← c.number-second.ensures.value)
    (answers _ _ _ c.self.view_is c.write_condition-in_default.ensures.text
    (λ state r.
    subst (λ l. Gives (record (made_of c.self.inside) { endpoints = l }) condition_line (client_answer state c.number-name.result c.number-first.result c.number-second.result)) (sym c.in_default.ensures.stays)
    (client-not_out (made_of c.self.inside) c.number-name.result c.number-first.result c.number-second.result state c.in_default.ensures.other r)))

-- no IN endpoint is under the second: the first stands under its own again
pub put_at-requires : goal.put_at-requires
put_at-requires c = record {
  free = ap (λ l. is_free l c.number-first.result) (c.in_default-take_idle.ensures.stays ∙ c.in-Some.ensures.rest) ∙ freed-free c.self.inside.endpoints.items c.number-first.result c.in-Some.sent c.in-Some.ensures.taken;
}

pub invariant_of-self-in_default-take_idle : goal.invariant_of-self-in_default-take_idle
invariant_of-self-in_default-take_idle c =
    subst (λ l. IsSound (record (made_of c.self.inside) { endpoints = l }))
    (sym (put_same _ _ _ c.number-first.result c.in-Some.sent c.in-Some.ensures.taken (c.in_default-take_idle.ensures.stays ∙ c.in-Some.ensures.rest)
    (c.put_at.ensures.after ∙ ap (set_name c.take_idle-2.new.endpoints.items c.number-first.result) c.widen.ensures.same))) c.self.invariant

pub returns-in_default-take_idle-clause-answered : goal.returns-in_default-take_idle-clause-answered
returns-in_default-take_idle-clause-answered c =
    rw (← c.number-name.ensures.value, ← c.number-first.ensures.value, ← c.number-second.ensures.value)
    (answers _ _ _ c.self.view_is c.write_condition-in_default-take_idle.ensures.text
    (λ state r.
    subst (λ l. Gives (record (made_of c.self.inside) { endpoints = l }) condition_line (client_answer state c.number-name.result c.number-first.result c.number-second.result))
    (sym (put_same _ _ _ c.number-first.result c.in-Some.sent c.in-Some.ensures.taken (c.in_default-take_idle.ensures.stays ∙ c.in-Some.ensures.rest)
    (c.put_at.ensures.after ∙ ap (set_name c.take_idle-2.new.endpoints.items c.number-first.result) c.widen.ensures.same)))
    (client-not_in (made_of c.self.inside) c.number-name.result c.number-first.result c.number-second.result state c.in-Some.sent c.in-Some.ensures.taken c.in-Some.ensures.admitted
    (λ e is none input. c.in_default-take_idle.ensures.other e (ap (λ l. named l c.number-second.result) c.in-Some.ensures.rest ∙ is) none input) r)))

-- the client stands under its name
pub invariant_of-self-in-Ok : goal.invariant_of-self-in-Ok
invariant_of-self-in-Ok c =
    client-made-sound (made_of c.self.inside) c.number-name.result c.number-first.result c.number-second.result _ _ c.in-Some.sent c.in-Some-take_idle.received c.in-Ok.made c.in-Some.ensures.taken
    (ap (λ l. named l c.number-second.result) (sym c.in-Some.ensures.rest) ∙ c.in-Some-take_idle.ensures.taken)
    (free_at _ _ _ _ _ _ c.deref.ensures.value refl c.is_free.ensures.free c.if-not-is_free.false) c.in-Ok.ensures.fresh
    (c.in-Some-take_idle.ensures.rest ∙ ap (λ l. freed l c.number-second.result) c.in-Some.ensures.rest) c.put_at-in-Ok.ensures.after c.self.invariant

pub returns-in-Ok-clause-answered : goal.returns-in-Ok-clause-answered
returns-in-Ok-clause-answered c =
    rw (← c.number-name.ensures.value, ← c.number-first.ensures.value, ← c.number-second.ensures.value)
    (answers _ _ _ c.self.view_is c.write_ok.ensures.text
    (client-gives (made_of c.self.inside) c.number-name.result c.number-first.result c.number-second.result _ _ c.in-Some.sent c.in-Some-take_idle.received c.in-Ok.made c.in-Some.ensures.taken
    (ap (λ l. named l c.number-second.result) (sym c.in-Some.ensures.rest) ∙ c.in-Some-take_idle.ensures.taken)
    (free_at _ _ _ _ _ _ c.deref.ensures.value refl c.is_free.ensures.free c.if-not-is_free.false) c.in-Ok.ensures.fresh
    (c.in-Some-take_idle.ensures.rest ∙ ap (λ l. freed l c.number-second.result) c.in-Some.ensures.rest) c.put_at-in-Ok.ensures.after
    c.in-Some.ensures.admitted c.in-Some-take_idle.ensures.admitted c.in-Some.ensures.idle c.in-Some-take_idle.ensures.idle))

-- or there is no memory: both endpoints stand under their own again
pub put_at-requires-in-Err : goal.put_at-requires-in-Err
put_at-requires-in-Err c = record {
  free = ap (λ l. is_free l c.number-second.result) c.in-Some-take_idle.ensures.rest ∙ freed-free c.take_idle.new.endpoints.items c.number-second.result c.in-Some-take_idle.received c.in-Some-take_idle.ensures.taken;
}

pub put_at-requires-in-Err-2 : goal.put_at-requires-in-Err-2
put_at-requires-in-Err-2 c =
    let back =
    put_same c.take_idle.new.endpoints.items c.take_idle-2.new.endpoints.items c.put_at-in-Err.new.names.items c.number-second.result c.in-Some-take_idle.received c.in-Some-take_idle.ensures.taken c.in-Some-take_idle.ensures.rest
    (c.put_at-in-Err.ensures.after ∙ ap (set_name c.take_idle-2.new.endpoints.items c.number-second.result) (c.widen-in-Err.ensures.same ∙ c.in-Err.ensures.back.1)) in
    record {
      free = ap (λ l. is_free l c.number-first.result) (back ∙ c.in-Some.ensures.rest) ∙ freed-free c.self.inside.endpoints.items c.number-first.result c.in-Some.sent c.in-Some.ensures.taken;
    }

pub invariant_of-self-in-Err : goal.invariant_of-self-in-Err
invariant_of-self-in-Err c =
    let es = c.self.inside.endpoints.items in
    let rest = c.in-Some-take_idle.ensures.rest ∙ ap (λ l. freed l c.number-second.result) c.in-Some.ensures.rest in
    subst (λ l. IsSound (record (made_of c.self.inside) { endpoints = l }))
    (sym (both-back es c.put_at-in-Err.new.names.items c.put_at-in-Err-2.new.names.items c.number-first.result c.number-second.result c.in-Some.sent c.in-Some-take_idle.received c.in-Some.ensures.taken
    (ap (λ l. named l c.number-second.result) (sym c.in-Some.ensures.rest) ∙ c.in-Some-take_idle.ensures.taken)
    (c.put_at-in-Err.ensures.after ∙ ap (λ l. set_name l c.number-second.result c.widen-in-Err.result) rest ∙ ap (set_name (freed (freed es c.number-first.result) c.number-second.result) c.number-second.result) (c.widen-in-Err.ensures.same ∙ c.in-Err.ensures.back.1))
    (c.put_at-in-Err-2.ensures.after ∙ ap (set_name c.put_at-in-Err.new.names.items c.number-first.result) (c.widen-in-Err-2.ensures.same ∙ c.in-Err.ensures.back.0)))) c.self.invariant
