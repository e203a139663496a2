use Rattle.std.proofs.Common.{sym, ◌∙◌, ap, subst}
use Rattle.usb_session_calls.specs.EndpointNames.{Own}
use Rattle.usb_session_calls.specs.SessionState.{SessionState, IsSound}
use Rattle.usb_session.specs.SessionFacts.{made_of}
use Rattle.usb_session.proofs.TakenOut.{same-none}
use Rattle.usb_session.proofs.CloseCode.{closed-sound, closed-spare, closed-represents, none-closed_represents}
use Rattle.usb_session.proofs.session.Session.close_endpoint.Goals as goal

pub invariant_of-self : goal.invariant_of-self
invariant_of-self c =
    subst (λ l. IsSound (record (made_of c.self.inside) { endpoints = l })) (sym (same-none _ _ _ _ c.take_at.ensures.taken c.in_default.is c.take_at.ensures.rest)) c.self.invariant

pub returns-in_default-clause-stands : goal.returns-in_default-clause-stands
returns-in_default-clause-stands c =
    none-closed_represents (made_of c.self.inside) _ c.self.inside.host c.args.number c.self.invariant c.self.view_is _ c.take_at.ensures.rest (sym c.take_at.ensures.taken ∙ c.in_default.is)

pub close-requires : goal.close-requires
close-requires c = record { stands = c.self.invariant.endpoints_stand (Own c.args.number) c.in-Some.endpoint (sym c.take_at.ensures.taken ∙ c.in-Some.is) }

pub invariant_of-self-2 : goal.invariant_of-self-2
invariant_of-self-2 c =
    closed-sound (made_of c.self.inside) _ c.close.new.bus c.args.number c.self.invariant c.self.view_is _ c.take_at.ensures.rest c.in-Some.endpoint (sym c.take_at.ensures.taken ∙ c.in-Some.is) c.close.ensures.bus c.close.ensures.others

pub returns-clause-stands : goal.returns-clause-stands
returns-clause-stands c =
    closed-represents (made_of c.self.inside) _ c.close.new.bus c.args.number c.self.invariant c.self.view_is _ c.take_at.ensures.rest c.in-Some.endpoint (sym c.take_at.ensures.taken ∙ c.in-Some.is) c.close.ensures.bus

pub returns-clause-spare : goal.returns-clause-spare
returns-clause-spare c = closed-spare c.self.inside.host c.close.new.bus c.in-Some.endpoint c.self.invariant.idle c.close.ensures.bus ∙ ap (λ (v : SessionState). v.host.kernel.spare) c.self.view_is
