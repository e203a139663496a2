use Rattle.std.proofs.Common.{refl}
use Rattle.usb_session_calls.specs.Controls.{on_control}
use Rattle.usb_session.specs.SessionFacts.{made_of}
use Rattle.usb_session_calls.proofs.ControlCode.{devices-lent, interfaces-lent, sound-controlled, spare-controlled, answers-controlled}
use Rattle.usb_session.proofs.Lent.{lent_is, answers-along}
use Rattle.usb_session.proofs.Later.{later-lent}
use Rattle.usb_session.proofs.session.Session.on_control.Goals as goal

pub call_control-called-requires-clause-devices : goal.call_control-called-requires-clause-devices
call_control-called-requires-clause-devices c = devices-lent (made_of c.self.inside) _ c.lend_steps.new.self c.deref.result.now c.self.invariant c.lend_steps.ensures.steps c.deref.ensures.value

pub call_control-called-requires-clause-interfaces : goal.call_control-called-requires-clause-interfaces
call_control-called-requires-clause-interfaces c = interfaces-lent (made_of c.self.inside) _ c.lend_steps.new.self c.deref-2.result.now c.self.invariant c.lend_steps.ensures.steps c.deref-2.ensures.value

pub invariant_of-self : goal.invariant_of-self
invariant_of-self c =
    sound-controlled (made_of c.self.inside) _ c.lend_steps.new.self c.call_control-called.new.host c.rest.new.self c.self.invariant c.lend_steps.ensures.steps c.call_control-called.ensures.keeps c.rest.ensures.rest

pub returns-clause-answered : goal.returns-clause-answered
returns-clause-answered c =
    answers-along _ (made_of c.self.inside) _ c.args.steps _ _ _ c.args.line.now c.call_control-called.new.line c.call_control-called.result (λ s. on_control s c.args.call) c.self.view_is
    (lent_is c.self.inside.host _ _ _ c.lend_steps.ensures.steps c.into_vec.ensures.value) refl c.rest.ensures.rest
    (answers-controlled c.args.call (made_of c.self.inside) c.lend_steps.new.self c.call_control-called.new.host c.args.line.now c.call_control-called.new.line c.call_control-called.result
    (rw (c.deref.ensures.value, c.deref-2.ensures.value) at c.call_control-called.ensures.answered))

pub returns-clause-spare : goal.returns-clause-spare
returns-clause-spare c =
    spare-controlled c.args.self.now (made_of c.self.inside) c.args.steps c.lend_steps.new.self c.call_control-called.new.host c.rest.new.self c.self.view_is
    (lent_is c.self.inside.host _ _ _ c.lend_steps.ensures.steps c.into_vec.ensures.value) c.call_control-called.ensures.keeps c.rest.ensures.rest c.requires.room

pub returns-clause-later : goal.returns-clause-later
returns-clause-later c = later-lent _ c.lend_steps.new.self c.call_control-called.new.host c.rest.new.self c.self.view_is c.lend_steps.ensures.steps c.call_control-called.ensures.keeps.past c.rest.ensures.rest
