use Rattle.std.proofs.Common.{◌∙◌, ap, sym}
use Rattle.usb_session_calls.specs.SessionState.{SessionState}
use Rattle.usb_session.specs.SessionFacts.{made_of}
use Rattle.usb_session.proofs.FutureCloses.{close_future-code, future-nothing, future-sound_same, future-closed_sound, future-closed_spare}
use Rattle.usb_session.proofs.session.Session.close_future_at.Goals as goal

pub invariant_of-self : goal.invariant_of-self
invariant_of-self c =
    future-sound_same (made_of c.self.inside) c.take_at.new.names.items c.args.number c.self.invariant
    (sym c.take_at.ensures.taken ∙ c.in_default.is) c.take_at.ensures.rest

pub returns-in_default-clause-stands : goal.returns-in_default-clause-stands
returns-in_default-clause-stands c =
    future-nothing c.args.self.now (made_of c.self.inside) c.take_at.new.names.items c.args.number c.self.view_is
    (sym c.take_at.ensures.taken ∙ c.in_default.is) c.take_at.ensures.rest

pub close-requires : goal.close-requires
close-requires c = record { stands = c.self.invariant.futures_stand c.args.number c.in-Some.future (sym c.take_at.ensures.taken ∙ c.in-Some.is) }

pub invariant_of-self-2 : goal.invariant_of-self-2
invariant_of-self-2 c =
    future-closed_sound (made_of c.self.inside) c.close.new.host c.take_at.new.names.items c.args.number c.in-Some.future c.self.invariant
    (sym c.take_at.ensures.taken ∙ c.in-Some.is) c.take_at.ensures.rest c.close.ensures.host

pub returns-clause-stands : goal.returns-clause-stands
returns-clause-stands c =
    close_future-code c.args.self.now (made_of c.self.inside) c.close.new.host c.take_at.new.names.items c.args.number c.in-Some.future c.self.view_is
    (sym c.take_at.ensures.taken ∙ c.in-Some.is) c.take_at.ensures.rest c.close.ensures.host

pub returns-clause-spare : goal.returns-clause-spare
returns-clause-spare c =
    future-closed_spare c.self.inside.host c.close.new.host c.in-Some.future c.close.ensures.host
    ∙ ap (λ (v : SessionState). v.host.kernel.spare) c.self.view_is
