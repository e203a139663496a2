use Rattle.usb_session.specs.SessionFacts.{made_of}
use Rattle.usb_session.proofs.Lent.{lent_is, sound-stepped, steps-represent, spare-lent}
use Rattle.usb_session_calls.proofs.LentHosts.{line-same}
use Rattle.usb_kernel.proofs.Extends.{extends-same}
use Rattle.usb_session.proofs.Later.{later-lent}
use Rattle.usb_session.proofs.session.Session.step_all.Goals as goal

pub invariant_of-self : goal.invariant_of-self
invariant_of-self c = sound-stepped (made_of c.self.inside) _ _ _ c.self.invariant c.lend_steps.ensures.steps c.rest.ensures.rest

pub returns-clause-stands : goal.returns-clause-stands
returns-clause-stands c = steps-represent (made_of c.self.inside) _ _ _ _ c.self.view_is (lent_is c.self.inside.host _ _ _ c.lend_steps.ensures.steps c.into_vec.ensures.value) c.rest.ensures.rest

pub returns-clause-spare : goal.returns-clause-spare
returns-clause-spare c =
    spare-lent (made_of c.self.inside) _ _ _ _ _ c.self.view_is (lent_is c.self.inside.host _ _ _ c.lend_steps.ensures.steps c.into_vec.ensures.value) (line-same c.lend_steps.new.self) c.rest.ensures.rest c.requires.room

pub returns-clause-later : goal.returns-clause-later
returns-clause-later c = later-lent _ c.lend_steps.new.self c.lend_steps.new.self c.rest.new.self c.self.view_is c.lend_steps.ensures.steps (extends-same c.lend_steps.new.self.kernel.past) c.rest.ensures.rest
