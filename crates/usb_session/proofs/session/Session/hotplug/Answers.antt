use Rattle.usb_session.specs.SessionFacts.{made_of}
use Rattle.usb_session_calls.proofs.Answering.{answers}
use Rattle.usb_session.proofs.TreeAnswers.{hotplug-gives, sound-packets}
use Rattle.usb_session.proofs.Later.{later-same}
use Rattle.usb_session.proofs.session.Session.hotplug.Goals as goal

pub invariant_of-self : goal.invariant_of-self
invariant_of-self c = sound-packets (made_of c.self.inside) c.poll_next.new.self c.self.invariant

pub returns-clause-answered : goal.returns-clause-answered
returns-clause-answered c =
    answers _ _ _ c.self.view_is c.write_hotplug.ensures.text
    (λ state r. hotplug-gives (made_of c.self.inside) state c.poll_next.new.self _ c.in_ok-event.ensures.event c.in_ok-event.ensures.ok r)

pub returns-clause-later : goal.returns-clause-later
returns-clause-later c = later-same c.self.view_is

pub returns-in_err-event-clause-later : goal.returns-in_err-event-clause-later
returns-in_err-event-clause-later c = later-same c.self.view_is
