use Rattle.std.proofs.Common.{sym, ◌∙◌, ap, subst}
use Rattle.usb_session_calls.specs.SessionState.{SessionState, IsSound}
use Rattle.usb_session.specs.SessionFacts.{made_of}
use Rattle.usb_session.proofs.TakenOut.{same-none}
use Rattle.usb_session_calls.proofs.ClientNames.{client-stands}
use Rattle.usb_session.proofs.CloseCode.{client-sound, both-spare, client-represents, none-client_represents}
use Rattle.usb_session.proofs.session.Session.close_client_at.Goals as goal

pub invariant_of-self : goal.invariant_of-self
invariant_of-self c =
    subst (λ l. IsSound (record (made_of c.self.inside) { clients = l })) (sym (same-none _ _ _ _ c.take_at.ensures.taken c.in_default.is c.take_at.ensures.rest)) c.self.invariant

pub returns-in_default-clause-stands : goal.returns-in_default-clause-stands
returns-in_default-clause-stands c =
    rw (← c.number.ensures.value)
    (none-client_represents (made_of c.self.inside) _ c.self.inside.host c.number.result c.self.invariant c.self.view_is _ c.take_at.ensures.rest (sym c.take_at.ensures.taken ∙ c.in_default.is))

pub close-requires : goal.close-requires
close-requires c = record { stand = client-stands (made_of c.self.inside) c.number.result c.in-Some.client c.self.invariant (sym c.take_at.ensures.taken ∙ c.in-Some.is) }

pub invariant_of-self-2 : goal.invariant_of-self-2
invariant_of-self-2 c =
    client-sound (made_of c.self.inside) _ c.close.new.bus c.number.result c.self.invariant c.self.view_is _ c.take_at.ensures.rest c.in-Some.client (sym c.take_at.ensures.taken ∙ c.in-Some.is) c.close.ensures.bus

pub returns-clause-stands : goal.returns-clause-stands
returns-clause-stands c =
    rw (← c.number.ensures.value)
    (client-represents (made_of c.self.inside) _ c.close.new.bus c.number.result c.self.invariant c.self.view_is _ c.take_at.ensures.rest c.in-Some.client (sym c.take_at.ensures.taken ∙ c.in-Some.is) c.close.ensures.bus)

pub returns-clause-spare : goal.returns-clause-spare
returns-clause-spare c =
    both-spare c.self.inside.host c.close.new.bus c.in-Some.client c.self.invariant.idle (client-stands (made_of c.self.inside) c.number.result c.in-Some.client c.self.invariant (sym c.take_at.ensures.taken ∙ c.in-Some.is)) c.close.ensures.bus
    ∙ ap (λ (v : SessionState). v.host.kernel.spare) c.self.view_is
