use Rattle.std.proofs.Common.{◌∙◌, ap, sym}
use Rattle.usb_device_host.specs.Handles.{handle_closed}
use Rattle.usb_session_calls.specs.SessionState.{SessionState}
use Rattle.usb_session.specs.SessionFacts.{made_of}
use Rattle.usb_session_calls.proofs.HandleHosts.{closed-keeps, spare-beside}
use Rattle.usb_session_calls.proofs.Handled.{sound-closed}
use Rattle.usb_session.proofs.HandleCloses.{close_interface-code, interface-nothing, interface-sound_same}
use Rattle.usb_session.proofs.session.Session.close_handle.Goals as goal

pub invariant_of-self : goal.invariant_of-self
invariant_of-self c =
    interface-sound_same (made_of c.self.inside) c.take_at.new.names.items c.args.number c.self.invariant
    (sym c.take_at.ensures.taken ∙ c.in_default.is) c.take_at.ensures.rest

pub returns-in_default-clause-stands : goal.returns-in_default-clause-stands
returns-in_default-clause-stands c =
    interface-nothing c.args.self.now (made_of c.self.inside) c.take_at.new.names.items c.args.number c.self.view_is
    (sym c.take_at.ensures.taken ∙ c.in_default.is) c.take_at.ensures.rest

pub invariant_of-self-2 : goal.invariant_of-self-2
invariant_of-self-2 c =
    sound-closed (made_of c.self.inside) c.close.new.host c.take_at.new.names.items c.args.number c.in-Some.interface c.self.invariant
    (sym c.take_at.ensures.taken ∙ c.in-Some.is) c.take_at.ensures.rest c.close.ensures.closed

pub returns-clause-stands : goal.returns-clause-stands
returns-clause-stands c =
    close_interface-code c.args.self.now (made_of c.self.inside) c.close.new.host c.take_at.new.names.items c.args.number c.in-Some.interface c.self.view_is
    (sym c.take_at.ensures.taken ∙ c.in-Some.is) c.take_at.ensures.rest c.close.ensures.closed

pub returns-clause-spare : goal.returns-clause-spare
returns-clause-spare c =
    spare-beside c.self.inside.host c.close.new.host (handle_closed c.self.inside.host c.in-Some.interface.key) c.close.ensures.closed (closed-keeps c.self.inside.host c.in-Some.interface.key)
    ∙ ap (λ (v : SessionState). v.host.kernel.spare) c.self.view_is
