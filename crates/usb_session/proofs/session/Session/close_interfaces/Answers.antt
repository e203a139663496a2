use Rattle.std.proofs.Common.{◌≡◌, arith, sym, subst, ◌∙◌}
use Rattle.usb_session.specs.Ends.{interface_closed, interfaces_closed}
use Rattle.usb_session_calls.specs.Relation.{Represents}
use Rattle.usb_session.proofs.EndLemmas.{none-more, below-more}
use Rattle.usb_session.proofs.session.Session.close_interfaces.Goals as goal

pub loop-name-preserved : goal.loop-name-preserved
loop-name-preserved c = record {
  stands =
      λ state r. subst (Represents c.close_handle.new.self) (sym (below-more interface_closed state c.loop-name.name))
      (c.close_handle.ensures.stands (interfaces_closed state c.loop-name.name) (c.loop-name.invariant.stands state r));
  none = none-more c.loop-name.self.interfaces c.close_handle.new.self.interfaces c.loop-name.name c.close_handle.ensures.freed c.loop-name.invariant.none;
  endpoints = c.close_handle.ensures.endpoints ∙ c.loop-name.invariant.endpoints;
  futures = c.close_handle.ensures.futures ∙ c.loop-name.invariant.futures;
}

pub returns-clause-stands : goal.returns-clause-stands
returns-clause-stands c = λ state r. let all : c.loop-name.name ≡ 64 = omega arith in rw all at (c.loop-name.invariant.stands state r)
