use Rattle.std.proofs.Common.{sym, ◌∙◌, ap, subst}
use Rattle.std.specs.Option.{option_map}
use Rattle.usb_session_calls.specs.EndpointNames.{OfReader}
use Rattle.usb_session_calls.specs.SessionState.{SessionState, IsSound}
use Rattle.usb_session.specs.SessionFacts.{made_of}
use Rattle.usb_session.proofs.TakenOut.{same-none}
use Rattle.usb_session.proofs.Replaced.{reader_endpoint}
use Rattle.usb_session.proofs.CloseCode.{reader-sound, closed-spare, reader-represents, none-reader_represents}
use Rattle.usb_session.proofs.session.Session.close_reader_at.Goals as goal

pub invariant_of-self : goal.invariant_of-self
invariant_of-self c =
    subst (λ l. IsSound (record (made_of c.self.inside) { readers = l })) (sym (same-none _ _ _ _ c.take_at.ensures.taken c.in_default.is c.take_at.ensures.rest)) c.self.invariant

pub returns-in_default-clause-stands : goal.returns-in_default-clause-stands
returns-in_default-clause-stands c =
    rw (← c.number.ensures.value)
    (none-reader_represents (made_of c.self.inside) _ c.self.inside.host c.number.result c.self.invariant c.self.view_is _ c.take_at.ensures.rest (sym c.take_at.ensures.taken ∙ c.in_default.is))

pub close-requires : goal.close-requires
close-requires c = record {
  stands = c.self.invariant.endpoints_stand (OfReader c.number.result) c.in-Some.reader.endpoint (ap (option_map reader_endpoint) (sym c.take_at.ensures.taken ∙ c.in-Some.is));
}

pub invariant_of-self-2 : goal.invariant_of-self-2
invariant_of-self-2 c =
    reader-sound (made_of c.self.inside) _ c.close.new.bus c.number.result c.self.invariant c.self.view_is _ c.take_at.ensures.rest c.in-Some.reader (sym c.take_at.ensures.taken ∙ c.in-Some.is) c.close.ensures.bus c.close.ensures.others

pub returns-clause-stands : goal.returns-clause-stands
returns-clause-stands c =
    rw (← c.number.ensures.value)
    (reader-represents (made_of c.self.inside) _ c.close.new.bus c.number.result c.self.invariant c.self.view_is _ c.take_at.ensures.rest c.in-Some.reader (sym c.take_at.ensures.taken ∙ c.in-Some.is) c.close.ensures.bus)

pub returns-clause-spare : goal.returns-clause-spare
returns-clause-spare c = closed-spare c.self.inside.host c.close.new.bus c.in-Some.reader.endpoint c.self.invariant.idle c.close.ensures.bus ∙ ap (λ (v : SessionState). v.host.kernel.spare) c.self.view_is
