use Rattle.std.proofs.Common.{◌≡◌, arith, sym, subst, ◌∙◌}
use Rattle.usb_session.specs.Ends.{name_closed, devices_closed}
use Rattle.usb_session_calls.specs.Relation.{Represents}
use Rattle.usb_session.proofs.EndLemmas.{none-more, below-more}
use Rattle.usb_session.proofs.session.Session.close_devices.Goals as goal

pub loop-name-preserved : goal.loop-name-preserved
loop-name-preserved c = record {
  stands =
      λ state r. subst (Represents c.close_name.new.self) (sym (below-more name_closed state c.loop-name.name))
      (c.close_name.ensures.stands (devices_closed state c.loop-name.name) (c.loop-name.invariant.stands state r));
  none = none-more c.loop-name.self.devices c.close_name.new.self.devices c.loop-name.name c.close_name.ensures.freed c.loop-name.invariant.none;
  interfaces = c.close_name.ensures.interfaces ∙ c.loop-name.invariant.interfaces;
  endpoints = c.close_name.ensures.endpoints ∙ c.loop-name.invariant.endpoints;
  futures = c.close_name.ensures.futures ∙ c.loop-name.invariant.futures;
}

pub returns-clause-stands : goal.returns-clause-stands
returns-clause-stands c = λ state r. let all : c.loop-name.name ≡ 64 = omega arith in rw all at (c.loop-name.invariant.stands state r)
